-- An edge from a satisfied child solves its parent: test by test. Assumes nothing.
use Rattle.std.specs.Prelude.{ℕ, ◌≤◌, ◌<◌, ◌≡◌, refl, Bool, true, false, not, ◌&&◌, ◌||◌, List, eqb, ltb, get_or, length}
use Rattle.std.proofs.Common.{sym, ◌∙◌, ap, eq-eqb, ne_eqb}
use Rattle.std.proofs.Math.Bool.{and-true}
use Rattle.expression.specs.declared.Expression.{Expression}
use Rattle.graph.specs.declared.Node.{Node}
use Rattle.graph.specs.declared.Edge.{Edge}
use Rattle.graph.specs.Graph.{node_in}
use Rattle.graph.specs.Propagated.{satisfied_b}
use Rattle.propagation.specs.Flags.{at}
use Rattle.graph.specs.declared.Nodes.{Nodes}
use Rattle.graph.specs.laws.Graph.{nodes_of, node_at}
use Rattle.graph.specs.laws.Columns.{node_in_lem}
use Rattle.justification.specs.Justified.{is_solution_for, solves}
use Rattle.justification.specs.laws.Justified.{Says, other, same-both, second, last, inside, past}

module _ (N : Nodes) (es : List Edge) (x : Expression) (b p : ℕ) (d : Edge) where
  by-solves : (u v w z : Bool) → u ≡ (eqb d.kind 3 && eqb d.parent p) → v ≡ ltb d.child (length (nodes_of N))
      → w ≡ is_solution_for x b (node_in (nodes_of N) d.child).expression → z ≡ at (satisfied_b (nodes_of N) es) d.child
      → (u && v && w && z) ≡ solves (nodes_of N) es x b p d
  unfolding solves
  by-solves u v w z e f g h = λ i. e i && f i && g i && h i

  -- another kind, or another parent
  pub solves-other : (not (eqb d.kind 3) || not (eqb d.parent p)) ≡ true → false ≡ solves (nodes_of N) es x b p d
  solves-other h = by-solves false _ _ _ (sym (other (eqb d.kind 3) (eqb d.parent p) h)) refl refl refl

  -- no child
  pub solves-past : {c : ℕ} → c ≡ d.child → N.count ≤ c → false ≡ solves (nodes_of N) es x b p d
  solves-past e l =
      let u : Bool = eqb d.kind 3 && eqb d.parent p in
      let w : Bool = is_solution_for x b (node_in (nodes_of N) d.child).expression in
      let z : Bool = at (satisfied_b (nodes_of N) es) d.child in
      second u w z ∙ by-solves u false w z refl (sym (past N es x b p d e l)) refl refl

  -- a child that is not satisfied
  pub solves-not : {c : ℕ} {sat : List ℕ} → c ≡ d.child → Says (nodes_of N) es sat → (get_or sat c 0 ≡ 1 → ⊥) → false ≡ solves (nodes_of N) es x b p d
  solves-not {c} {sat} e s h =
      let u : Bool = eqb d.kind 3 && eqb d.parent p in
      let v : Bool = ltb d.child (length (nodes_of N)) in
      let w : Bool = is_solution_for x b (node_in (nodes_of N) d.child).expression in
      last (u && v && w) ∙ by-solves u v w false refl refl refl (sym (ne_eqb (get_or sat c 0) 1 h) ∙ s.says c ∙ ap (at (satisfied_b (nodes_of N) es)) e)

  -- a satisfied child, by its expression
  pub solves-is : {c : ℕ} {sat : List ℕ} {r : Bool} → (not (eqb d.kind 3) || not (eqb d.parent p)) ≡ false → c ≡ d.child → c < N.count
      → Says (nodes_of N) es sat → get_or sat c 0 ≡ 1
      → r ≡ is_solution_for x b (node_at N c).expression → r ≡ solves (nodes_of N) es x b p d
  solves-is {c} {sat} {r} h e l s o q =
      sym (and-true r) ∙ by-solves true true r true (sym (same-both (eqb d.kind 3) (eqb d.parent p) h)) (sym (inside N es x b p d e l))
      (q ∙ ap (λ (n : Node). is_solution_for x b n.expression) (sym (node_in_lem N c l) ∙ ap (node_in (nodes_of N)) e))
      (sym (eq-eqb (get_or sat c 0) 1 o) ∙ s.says c ∙ ap (at (satisfied_b (nodes_of N) es)) e)
