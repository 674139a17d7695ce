-- The forms of nodes and edges (sections 4.1 and 4.2) and the legal states of nodes (document 01, "RT0 and states"). Assumes nothing.
use Rattle.std.specs.Prelude.{ℕ, ◌<◌, Bool, true, false, not, cond, ◌&&◌, ◌||◌, eqb, ltb, ◌≡◌, length}
use Rattle.expression.specs.declared.Parts.{Parts}
use Rattle.expression.specs.declared.Role.{Role}
use Rattle.expression.specs.declared.Expression.{Expression}
use Rattle.expression.specs.declared.Expression.TheVariants as E
use Rattle.expression.specs.Same.{same}
use Rattle.rt0.specs.Lists.{any}
use Rattle.rt0.specs.From.{roles_of}
use Rattle.graph.specs.declared.Node.{Node}
use mathlib.Core.List.{List, Memᴰ}
use Rattle.graph.specs.declared.Edge.{Edge}
use Rattle.graph.specs.Graph.{node_in}

-- a standard target's expression, "f is a role or a linked role"
abbrev pub is_standard : Expression → Bool
is_standard (E.Entity a) = false
is_standard (E.Role a) = true
is_standard (E.Linked a r) = true
is_standard (E.Intersection p) = false
is_standard (E.Goal r) = false

-- a target's expression and subject; a trivial target is an entity that is its own subject
abbrev pub is_target : Expression → ℕ → Bool
is_target (E.Entity a) s = eqb a s
is_target (E.Role a) s = true
is_target (E.Linked a r) s = true
is_target (E.Intersection p) s = true
is_target (E.Goal r) s = false

-- a role B.r
abbrev pub is_named : ℕ → Expression → Bool
is_named r (E.Entity a) = false
is_named r (E.Role a) = eqb a.name r
is_named r (E.Linked a t) = false
is_named r (E.Intersection p) = false
is_named r (E.Goal t) = false

-- A.r1.r2 and ?X.r2
abbrev pub is_monitor : Expression → Expression → Bool
is_monitor (E.Entity a) c = false
is_monitor (E.Role a) c = false
is_monitor (E.Linked a r) c = same c (E.Goal r)
is_monitor (E.Intersection p) c = false
is_monitor (E.Goal r) c = false

-- ?X.r2 and B.r2
abbrev pub is_solution : Expression → Expression → Bool
is_solution (E.Entity a) c = false
is_solution (E.Role a) c = false
is_solution (E.Linked a r) c = false
is_solution (E.Intersection p) c = false
is_solution (E.Goal r) c = is_named r c

-- A.r1.r2 and A.r1
abbrev pub is_first : Expression → Expression → Bool
is_first (E.Entity a) c = false
is_first (E.Role a) c = false
is_first (E.Linked a r) c = same c (E.Role a)
is_first (E.Intersection p) c = false
is_first (E.Goal r) c = false

-- one of the roles of an intersection
unfoldable pub has_role : Parts → Expression → Bool
has_role p c = any (λ (a : Role). same c (E.Role a)) (roles_of p)

-- an intersection and one of its roles
abbrev pub is_part : Expression → Expression → Bool
is_part (E.Entity a) c = false
is_part (E.Role a) c = false
is_part (E.Linked a r) c = false
is_part (E.Intersection p) c = has_role p c
is_part (E.Goal r) c = false

abbrev pub same_verifier : Node → Node → Bool
same_verifier p c = eqb c.verifier p.verifier

-- the same V and the same S
abbrev pub same_ends : Node → Node → Bool
same_ends p c = same_verifier p c && eqb c.subject p.subject

-- both sides are standard targets; the child's verifier opposes the parent's, the entity v, and has it as subject
abbrev pub is_control : ℕ → Node → Node → Bool
is_control v p c = is_standard p.expression && is_standard c.expression && not (same_verifier p c) && eqb c.subject v

-- an edge of kind k from c to p; v is the entity of p's verifier
unfoldable pub form : ℕ → ℕ → Node → Node → Bool
form k v p c =
    cond (eqb k 1) (is_standard p.expression && is_target c.expression c.subject && same_ends p c)
    (cond (eqb k 2) (is_monitor p.expression c.expression && same_ends p c)
    (cond (eqb k 3) (is_solution p.expression c.expression && same_ends p c)
    (cond (eqb k 4) (is_first p.expression c.expression && same_verifier p c)
    (cond (eqb k 5) (is_part p.expression c.expression && same_ends p c)
    (eqb k 6 && is_control v p c)))))

-- "Legal states: trivial 3; goal 1 or 3; intersection 1 to 3; standard any"
unfoldable pub legal_state : Expression → ℕ → Bool
legal_state (E.Entity a) s = eqb s 3
legal_state (E.Role a) s = ltb s 4
legal_state (E.Linked a r) s = ltb s 4
legal_state (E.Intersection p) s = ltb 0 s && ltb s 4
legal_state (E.Goal r) s = eqb s 1 || eqb s 3

-- Exclusion

-- edges have their forms, and "Nodes are unique" (section 4.1)
pub record Formed (ns : List Node) (es : List Edge) : Type 0 where
  pub formed : (e : Edge) → Memᴰ e es → (v : ℕ) × (form e.kind v (node_in ns e.parent) (node_in ns e.child) ≡ true)
  pub unique : (i j : ℕ) → i < length ns → j < length ns → (node_in ns i).expression ≡ (node_in ns j).expression
      → (node_in ns i).verifier ≡ (node_in ns j).verifier → (node_in ns i).subject ≡ (node_in ns j).subject → i ≡ j
