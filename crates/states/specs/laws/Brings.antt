-- What propagation asks of a graph: which slot an edge fills, what a node needs and how it fails. Assumes nothing.
use Rattle.std.specs.Prelude.{ℕ, ◌+◌, ◌*◌, ◌≤◌, ◌<◌, ◌≡◌, Bool, true, cond, ◌&&◌, List, [], ◌∷◌, eqb, ltb, get_or, length}
use Rattle.expression.specs.declared.Role.{Role}
use Rattle.expression.specs.declared.Parts.{Parts}
use Rattle.expression.specs.declared.Expression.{Expression}
use Rattle.expression.specs.declared.Expression.TheVariants as E
use Rattle.expression.specs.Form.{well_formed}
use Rattle.expression.specs.Same.{same_role}
use Rattle.rt0.specs.From.{roles_of}
use Rattle.graph.specs.declared.Node.{Node}
use Rattle.graph.specs.declared.Edge.{Edge}
use Rattle.graph.specs.Graph.{node_in}
use Rattle.graph.specs.laws.Graph.{edge_in}
use Rattle.graph.specs.Form.{form}
use Rattle.graph.specs.States.{implication_kind, intersection_kind}

-- how many slots a node of expression x in state s needs filled: a trivial target none, a standard target one, an intersection target
-- "only with all k part edges, each child satisfied, and fully processed"; 5 is never
abbrev pub need_as : ℕ → Expression → ℕ
need_as s (E.Entity a) = 0
need_as s (E.Role a) = 1
need_as s (E.Linked a r) = 1
need_as s (E.Intersection p) = cond (eqb s 3) p.count 5
need_as s (E.Goal r) = 5

unfoldable pub need_of : Node → ℕ
need_of n = need_as n.state n.expression

-- how it fails: a standard target, "when it is fully processed", with no implication child that has not failed (1), an intersection target
-- "when one of its children is failed" (2)
abbrev pub way_as : ℕ → Expression → ℕ
way_as s (E.Entity a) = 0
way_as s (E.Role a) = cond (eqb s 3) 1 0
way_as s (E.Linked a r) = cond (eqb s 3) 1 0
way_as s (E.Intersection p) = 2
way_as s (E.Goal r) = 0

unfoldable pub way_of : Node → ℕ
way_of n = way_as n.state n.expression

-- the number of the first of the roles that is a, counted from k on; 4 for none
abbrev pub place_in : Role → ℕ → List Role → ℕ
place_in a k [] = 4
place_in a k (b ∷ bs) = cond (same_role a b) k (place_in a (k + 1) bs)

-- which of the roles of an intersection an expression is, 0 to 3; 4 for none
unfoldable pub slot_in : Parts → Expression → ℕ
slot_in p (E.Entity a) = 4
slot_in p (E.Role a) = place_in a 0 (roles_of p)
slot_in p (E.Linked a r) = 4
slot_in p (E.Intersection q) = 4
slot_in p (E.Goal r) = 4

-- the slot of a node of expression x that an edge of kind k from one of expression y fills; 4 for none. An implication child fills a standard
-- target's only slot, an intersection child the one of its role.
unfoldable pub slot_as : ℕ → Expression → Expression → ℕ
slot_as k (E.Entity a) y = 4
slot_as k (E.Role a) y = cond (implication_kind k) 0 4
slot_as k (E.Linked a r) y = cond (implication_kind k) 0 4
slot_as k (E.Intersection p) y = cond (intersection_kind k) (slot_in p y) 4
slot_as k (E.Goal r) y = 4

-- whether an edge of kind k between nodes p and c of n, of expressions x and y, brings p a child
abbrev pub brings_by : ℕ → ℕ → ℕ → ℕ → Expression → Expression → Bool
brings_by n k p c x y = ltb p n && ltb c n && ltb (slot_as k x y) 4

-- the slot that it fills, of all; 512 for none
unfoldable pub slot_by : ℕ → ℕ → ℕ → ℕ → Expression → Expression → ℕ
slot_by n k p c x y = cond (brings_by n k p c x y) (p * 4 + slot_as k x y) 512

module _ (ns : List Node) (e : Edge) where
  -- which of its parent's slots an edge fills
  abbrev pub slot_for : ℕ
  slot_for = slot_as e.kind (node_in ns e.parent).expression (node_in ns e.child).expression

  -- whether it brings its parent an implication child or an intersection child
  unfoldable pub brings : Bool
  brings = brings_by (length ns) e.kind e.parent e.child (node_in ns e.parent).expression (node_in ns e.child).expression

  -- where it leads from, 128 being no node's number, and the slot into which it leads
  unfoldable pub from_of : ℕ
  from_of = cond brings e.child 128

  unfoldable pub slot_of : ℕ
  slot_of = cond brings (e.parent * 4 + slot_for) 0

-- at most 128 nodes, their expressions of right form: the roles of an intersection are two to four, and distinct
pub record NodesFormed (ns : List Node) : Type 0 where
  pub few : length ns ≤ 128
  pub formed : (i : ℕ) → i < length ns → well_formed (node_in ns i).expression ≡ true

-- edges between nodes, each of the form of its kind
pub record EdgesFormed (ns : List Node) (es : List Edge) : Type 0 where
  pub parent : (j : ℕ) → j < length es → (edge_in es j).parent < length ns
  pub child : (j : ℕ) → j < length es → (edge_in es j).child < length ns
  pub formed : (j : ℕ) → j < length es → (v : ℕ) × (form (edge_in es j).kind v (node_in ns (edge_in es j).parent) (node_in ns (edge_in es j).child) ≡ true)

-- columns of propagation that hold a graph's edges
pub record Joined (ns : List Node) (es : List Edge) (F S : List ℕ) : Type 0 where
  pub from : (j : ℕ) → j < length es → get_or F j 0 ≡ from_of ns (edge_in es j)
  pub slot : (j : ℕ) → j < length es → get_or S j 0 ≡ slot_of ns (edge_in es j)
  pub slots : (j : ℕ) → get_or S j 0 < 512

-- what its nodes need, and how they fail; past the end stands a goal
pub record Needs (ns : List Node) (N : List ℕ) : Type 0 where
  pub need : (i : ℕ) → i < 128 → get_or N i 0 ≡ need_of (node_in ns i)

pub record Ways (ns : List Node) (W : List ℕ) : Type 0 where
  pub way : (i : ℕ) → i < 128 → get_or W i 0 ≡ way_of (node_in ns i)
