-- A node or an edge is found exactly where it stands. Assumes nothing.
use Rattle.std.specs.Prelude.{ℕ, zero, suc, ◌+◌, ◌<◌, ◌≡◌, refl, ◌⊎◌, ◌↔◌, Bool, false, ◌&&◌, eqb}
use Rattle.std.proofs.Common.{arith, ◌∙◌, subst, inl, inr, eq-eqb, eqb-true}
use Rattle.std.proofs.Math.Path.{ap}
use Rattle.std.proofs.Math.Bool.{true}
use mathlib.Core.List.{List, Memᴰ}
use Rattle.std.proofs.Math.ListN.{length}
use Rattle.expression.specs.declared.Expression.{Expression}
use Rattle.rt0.specs.laws.Lists.{any-find, any_here}
use Rattle.word.specs.laws.Bools.{and_parts, and_both}
use Rattle.rt0.specs.laws.Find.{Missed, missed-start, missed_more, missed-fewer, first-at, first-none}
use Rattle.graph.specs.declared.Node.{Node}
use Rattle.graph.specs.declared.Edge.{Edge}
use Rattle.graph.specs.Graph.{node_in}
use Rattle.graph.specs.Find.{is_node, find_node, same_edge, has_edge}

module _ (ns : List Node) (x : Expression) (v s : ℕ) where
  -- node i passes
  abbrev pub passes : ℕ → Bool
  passes i = is_node x v s (node_in ns i)

  -- no node is the one looked for
  pub record Absent : Type 0 where
    pub number : find_node ns x v s ≡ 128
    pub none : (i : ℕ) → i < length ns → passes i ≡ false

  -- the number is the least one of those that pass
  pub record Found : Type 0 where
    pub inside : find_node ns x v s < length ns
    pub here : passes (find_node ns x v s) ≡ true
    pub least : (i : ℕ) → i < find_node ns x v s → passes i ≡ false

  pub find_cases : Absent ⊎ Found
  unfolding find_node
  find_cases = go (length ns) 0 (omega arith) (missed-start passes (λ i. i))
    where
      found : (k : ℕ) → k < length ns → Missed passes (λ i. i) k → passes k ≡ true → Found
      found k l h t =
          let e : find_node ns x v s ≡ k = first-at (λ i. i) 128 (length ns) h l t in
          record { inside = omega arith; here = ap passes e ∙ t; least = λ i j. h.none i (omega arith) }

      step : (k : ℕ) → k < length ns → Missed passes (λ i. i) k → (Missed passes (λ i. i) (k + 1) → Absent ⊎ Found) → (b : Bool) → passes k ≡ b → Absent ⊎ Found
      step k l h next true e = inr (found k l h e)
      step k l h next false e = next (missed_more h refl e)

      go : (f k : ℕ) → k + f ≡ length ns → Missed passes (λ i. i) k → Absent ⊎ Found
      go zero k e h = inl (record { number = first-none (λ i. i) 128 (length ns) (missed-fewer h (omega arith)); none = λ i l. h.none i (omega arith) })
      go (suc f) k e h = step k (omega arith) h (λ m. go f (k + 1) (omega arith) m) (passes k) refl

-- edges that pass the test are equal
same_edge-eq : (e d : Edge) → same_edge e d ≡ true → e ≡ d
same_edge-eq e d h =
    let p = and_parts (eqb e.kind d.kind && eqb e.parent d.parent) (eqb e.child d.child) h in
    let q = and_parts (eqb e.kind d.kind) (eqb e.parent d.parent) p.0 in
    let k : e.kind ≡ d.kind = eqb-true e.kind d.kind q.0 in
    let f : e.parent ≡ d.parent = eqb-true e.parent d.parent q.1 in
    let c : e.child ≡ d.child = eqb-true e.child d.child p.1 in
    λ i. record { kind = k i; parent = f i; child = c i }

-- an edge passes the test with itself
same_edge-refl : (e : Edge) → same_edge e e ≡ true
same_edge-refl e =
    and_both (eqb e.kind e.kind && eqb e.parent e.parent) (eqb e.child e.child)
    (and_both (eqb e.kind e.kind) (eqb e.parent e.parent) (eq-eqb e.kind e.kind refl) (eq-eqb e.parent e.parent refl))
    (eq-eqb e.child e.child refl)

pub has-exact : (es : List Edge) (d : Edge) → (has_edge es d ≡ true) ↔ Memᴰ d es
unfolding has_edge
has-exact es d = (
  λ h. let r = any-find (λ e. same_edge e d) es h in subst (λ (e : Edge). Memᴰ e es) (same_edge-eq r.0 d r.2) r.1,
  λ m. any_here
      (λ e. same_edge e d) m (same_edge-refl d),
)
