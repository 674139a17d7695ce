-- Justification, by its tests. Assumes nothing.
use Rattle.std.specs.Prelude.{ℕ, ◌≤◌, ◌<◌, ◌≡◌, refl, Bool, true, false, not, ◌&&◌, ◌||◌, List, eqb, ltb, length}
use Rattle.std.proofs.Common.{sym, ◌∙◌, ap, arith, lt-ltb, le-ltb}
use Rattle.std.proofs.Math.Bool.{and-false}
use Rattle.expression.specs.declared.Expression.{Expression}
use Rattle.rt0.specs.Lists.{any}
use Rattle.graph.specs.declared.Node.{Node}
use Rattle.graph.specs.declared.Edge.{Edge}
use Rattle.graph.specs.Graph.{node_in}
use Rattle.graph.specs.Propagated.{satisfied_b}
use Rattle.propagation.specs.Flags.{at}
use Rattle.propagation.specs.laws.Flags.{flag}
use Rattle.word.specs.laws.Bools.{false-true}
use Rattle.rt0.specs.laws.Find.{Missed, any_at, any_none}
use Rattle.graph.specs.declared.Nodes.{Nodes}
use Rattle.graph.specs.declared.Edges.{Edges}
use Rattle.graph.specs.laws.Graph.{nodes_of, edges_of, edge_at}
use Rattle.graph.specs.laws.Columns.{nodes-length}
use Rattle.justification.specs.Justified.{solves, solved, monitors, monitored}

abbrev pub linking_kind : ℕ → Bool
linking_kind k = eqb k 4

-- What the code keeps

-- the column says which nodes the edges satisfy
pub record Says (ns : List Node) (es : List Edge) (sat : List ℕ) : Type 0 where
  pub says : (i : ℕ) → flag sat i ≡ at (satisfied_b ns es) i

-- the tests of an edge's kind, parent and child, made one after the other
pub other : (p q : Bool) → (not p || not q) ≡ true → (p && q) ≡ false
other true true h = absurd (false-true h)
other true false h = refl
other false q h = refl

pub same-both : (p q : Bool) → (not p || not q) ≡ false → (p && q) ≡ true
same-both true true h = refl
same-both true false h = absurd (false-true (sym h))
same-both false q h = absurd (false-true (sym h))

pub second : (a b c : Bool) → false ≡ (a && false && b && c)
second true b c = refl
second false b c = refl

second-of : (a b : Bool) → false ≡ (a && false && b)
second-of true b = refl
second-of false b = refl

pub last : (a : Bool) → false ≡ (a && false)
last a = sym (and-false a)

module _ (N : Nodes) (es : List Edge) (x : Expression) (b p : ℕ) (d : Edge) where
  pub inside : {c : ℕ} → c ≡ d.child → c < N.count → ltb d.child (length (nodes_of N)) ≡ true
  inside e l = lt-ltb d.child (length (nodes_of N)) (omega (arith, nodes-length N))

  pub past : {c : ℕ} → c ≡ d.child → N.count ≤ c → ltb d.child (length (nodes_of N)) ≡ false
  past e l = le-ltb d.child (length (nodes_of N)) (omega (arith, nodes-length N))

  by-monitors : (u v w : Bool) → u ≡ (eqb d.kind 2 && eqb d.parent p) → v ≡ ltb d.child (length (nodes_of N))
      → w ≡ solved (nodes_of N) es x b d.child → (u && v && w) ≡ monitors (nodes_of N) es x b p d
  unfolding monitors
  by-monitors u v w e f g = λ i. e i && f i && g i

  pub monitors-other : (not (eqb d.kind 2) || not (eqb d.parent p)) ≡ true → false ≡ monitors (nodes_of N) es x b p d
  monitors-other h = by-monitors false _ _ (sym (other (eqb d.kind 2) (eqb d.parent p) h)) refl refl

  pub monitors-past : {c : ℕ} → c ≡ d.child → N.count ≤ c → false ≡ monitors (nodes_of N) es x b p d
  monitors-past e l =
      let u : Bool = eqb d.kind 2 && eqb d.parent p in
      let w : Bool = solved (nodes_of N) es x b d.child in
      second-of u w ∙ by-monitors u false w refl (sym (past e l)) refl

  pub monitors-is : {c : ℕ} {r : Bool} → (not (eqb d.kind 2) || not (eqb d.parent p)) ≡ false → c ≡ d.child → c < N.count
      → r ≡ solved (nodes_of N) es x b d.child → r ≡ monitors (nodes_of N) es x b p d
  monitors-is {c} {r} h e l q = by-monitors true true r (sym (same-both (eqb d.kind 2) (eqb d.parent p) h)) (sym (inside e l)) q

-- The searches

module _ (ns : List Node) (E : Edges) (x : Expression) (b p : ℕ) {j : ℕ} where
  module _ (h : Missed (solves ns (edges_of E) x b p) (edge_at E) j) where
    pub solved-at : {r : Bool} → j < E.count → r ≡ solves ns (edges_of E) x b p (edge_at E j) → r ≡ true → true ≡ solved ns (edges_of E) x b p
    unfolding solved edges_of
    solved-at l e t = any_at E.count h l e t

    pub solved-none : E.count ≤ j → false ≡ solved ns (edges_of E) x b p
    unfolding solved edges_of
    solved-none l = any_none E.count h l

  module _ (h : Missed (monitors ns (edges_of E) x b p) (edge_at E) j) where
    pub linked-at : {r : Bool} → j < E.count → r ≡ monitors ns (edges_of E) x b p (edge_at E j) → r ≡ true
        → true ≡ any (monitors ns (edges_of E) x b p) (edges_of E)
    unfolding edges_of
    linked-at l e t = any_at E.count h l e t

    pub linked-none : E.count ≤ j → false ≡ any (monitors ns (edges_of E) x b p) (edges_of E)
    unfolding edges_of
    linked-none l = any_none E.count h l

-- P is the node i, the parent of e, and C the node k, its child
pub monitored-by : (ns : List Node) (es : List Edge) (e : Edge) {P C : Node} {i k : ℕ} {r : Bool} → i ≡ e.parent → P ≡ node_in ns i → k ≡ e.child
    → C ≡ node_in ns k
    → r ≡ any (monitors ns es P.expression C.subject e.parent) es → r ≡ monitored ns es e
unfolding monitored
monitored-by ns es e ie pe ke ce h =
    h ∙ (λ t. any (monitors ns es ((pe ∙ ap (node_in ns) ie) t).expression ((ce ∙ ap (node_in ns) ke) t).subject e.parent) es)
