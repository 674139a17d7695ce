-- The nodes that fail by the columns are the failed nodes. Assumes nothing.
use Rattle.std.specs.Prelude.{ℕ, ◌+◌, ◌*◌, ◌<◌, ◌≡◌, Bool, ◌||◌, List, eqb}
use Rattle.std.proofs.Common.{arith, ◌∙◌, ⊎_elim, eqb-true, eq-eqb}
use Rattle.std.proofs.Math.Path.{refl, sym, ap}
use Rattle.std.proofs.Math.Bool.{true, false, not, cond, or-false}
use Rattle.std.proofs.lemmas.Bool.{not-true}
use Rattle.std.proofs.Math.ListN.{get_or, length}
use Rattle.expression.specs.declared.Role.{Role}
use Rattle.expression.specs.declared.Parts.{Parts}
use Rattle.expression.specs.declared.Expression.{Expression}
use Rattle.expression.specs.declared.Expression.TheVariants as E
use Rattle.expression.specs.Form.{well_formed}
use Rattle.expression.specs.Same.{same}
use Rattle.expression.specs.laws.Same.{same-eq}
use Rattle.rt0.specs.laws.Lists.{any-find}
use Rattle.word.specs.laws.Bools.{false-true, and_parts, bool_iff, not-of}
use Rattle.rt0.specs.From.{roles_of}
use Rattle.graph.specs.declared.Node.{Node}
use Rattle.graph.specs.declared.Edge.{Edge}
use Rattle.graph.specs.Graph.{node_in}
use Rattle.graph.specs.Form.{is_standard, has_role, is_part, same_ends, form}
use Rattle.graph.specs.States.{intersection_kind, FullyProcessed, Child, Failed, failed-standard, failed-intersection}
use Rattle.graph.specs.laws.States.{processed-inside, failed-inside}
use Rattle.graph.specs.Propagated.{failed_b}
use Rattle.graph.specs.laws.Propagated.{failed-exact}
use Rattle.propagation.specs.Flags.{at}
use Rattle.propagation.specs.laws.Flags.{decided}
use Rattle.propagation.specs.laws.Least.{least-into}
use Rattle.propagation.specs.laws.Satisfied.{Graph, graph, node_at}
use Rattle.propagation.specs.laws.Failed.{child_of, fails_by, failed_rule, failed_of}
use Rattle.propagation.specs.laws.FailedLaws.{child-find, child-here, failed-mono, failed-closed}
use Rattle.states.specs.laws.Brings.{way_as, way_of, slot_in, NodesFormed, EdgesFormed, Joined, Ways}
use Rattle.states.specs.laws.Places.{mem_index, roles-formed, role-found}
use Rattle.states.specs.laws.Brought.{brought-at-all, brought-here-all, implied, implies, joined, joins}

-- The ways

fails-zero : (a h : Bool) → fails_by 0 a h ≡ true → ⊥
unfolding fails_by
fails-zero a h e = false-true e

fails-one : (t a h : Bool) → fails_by (cond t 1 0) a h ≡ true → (t ≡ true) × (a ≡ false)
unfolding fails_by
fails-one true a h e = (refl, not-true a (sym (or-false (not a)) ∙ e))
fails-one false a h e = absurd (fails-zero a h e)

fails-two : (a h : Bool) → fails_by 2 a h ≡ true → h ≡ true
unfolding fails_by
fails-two a h e = e

way-one : (s : ℕ) (x : Expression) → is_standard x ≡ true → way_as s x ≡ cond (eqb s 3) 1 0
way-one s (E.Entity a) h = absurd (false-true h)
way-one s (E.Role a) h = refl
way-one s (E.Linked a r) h = refl
way-one s (E.Intersection p) h = absurd (false-true h)
way-one s (E.Goal r) h = absurd (false-true h)

module _ {ns : List Node} {es : List Edge} {F S W : List ℕ} (nf : NodesFormed ns) (ef : EdgesFormed ns es) (jn : Joined ns es F S) (wy : Ways ns W) where
  abbrev G : Graph
  G = graph F S W

  -- how a node of expression x fails
  way_at : (i : ℕ) → i < 128 → {x : Expression} → (node_in ns i).expression ≡ x → node_at G i ≡ way_as (node_in ns i).state x
  unfolding way_of
  way_at i b e = wy.way i b ∙ ap (way_as (node_in ns i).state) e

  -- What the rule brings is failed

  module _ (s : ℕ → Bool) (ih : (i : ℕ) → s i ≡ true → Failed ns es i) where
    abbrev alive : ℕ → Bool
    alive i = child_of (length es) G (λ f. not (s f)) i

    abbrev hit : ℕ → Bool
    hit i = child_of (length es) G s i

    step : (i : ℕ) → i < 128 → failed_rule (length es) G s i ≡ true → Failed ns es i
    unfolding failed_rule
    step i b h = go (node_in ns i).expression refl
      where
        by : {x : Expression} → (node_in ns i).expression ≡ x → fails_by (way_as (node_in ns i).state x) (alive i) (hit i) ≡ true
        by e = ap (λ (w : ℕ). fails_by w (alive i) (hit i)) (sym (way_at i b e)) ∙ h

        unimplied : {x : Expression} → (node_in ns i).expression ≡ x → is_standard x ≡ true
            → fails_by (cond (eqb (node_in ns i).state 3) 1 0) (alive i) (hit i) ≡ true → Failed ns es i
        unimplied e t f =
            let r = fails-one (eqb (node_in ns i).state 3) (alive i) (hit i) f in
            let full : FullyProcessed ns i = eqb-true (node_in ns i).state 3 r.0 in
            let y : is_standard (node_in ns i).expression ≡ true = ap is_standard e ∙ t in
            failed-standard y full
            (λ c k.
            let q = brought-here-all jn (processed-inside ns i full) (omega arith) (implies y k) in
            let z : get_or F q.0 0 ≡ c = q.2 in
            let v : get_or S q.0 0 ≡ i * 4 + 0 = q.3 in
            ⊎_elim (λ u. ih c u)
            (λ u. absurd (false-true (sym r.1 ∙ child-here (length es) G (λ f. not (s f)) i q.0 q.1 (omega arith)
            (omega (arith, k.inside, nf.few)) (ap (λ (f : ℕ). not (s f)) z ∙ ap not u)))) (decided (s c)))

        go : (x : Expression) → (node_in ns i).expression ≡ x → Failed ns es i
        go (E.Entity a) e = absurd (fails-zero (alive i) (hit i) (by e))
        go (E.Role a) e = unimplied e refl (by e)
        go (E.Linked a r) e = unimplied e refl (by e)
        go (E.Intersection p) e =
            let r = child-find (length es) G s i (fails-two (alive i) (hit i) (by e)) in
            let w = brought-at-all jn r.0 i r.1 r.3 r.2 in
            failed-intersection e (joined e w.1 w.2).0 (ih (get_or F r.0 0) r.4)
        go (E.Goal r) e = absurd (fails-zero (alive i) (hit i) (by e))

  -- What is failed the rule brings

  -- an intersection child is one of the roles
  part-slot : {i c : ℕ} {p : Parts} → i < length ns → (node_in ns i).expression ≡ E.Intersection p → Child ns es intersection_kind i c
      → slot_in p (node_in ns c).expression < 4
  unfolding form has_role
  part-slot {i} {c} {p} l e k =
      let r = mem_index (record { kind = 0; parent = 0; child = 0 }) k.edge in
      let v = ef.formed r.0 r.1 in
      let g : form k.kind v.0 (node_in ns i) (node_in ns c)
      ≡ true = sym (ap (λ (d : Edge). form d.kind v.0 (node_in ns d.parent) (node_in ns d.child)) r.2) ∙ v.1 in
      let z : form 5 v.0 (node_in ns i) (node_in ns c)
      ≡ true = sym (ap (λ (n : ℕ). form n v.0 (node_in ns i) (node_in ns c)) (eqb-true k.kind 5 k.passes)) ∙ g in
      let q = and_parts (is_part (node_in ns i).expression (node_in ns c).expression) (same_ends (node_in ns i) (node_in ns c)) z in
      let y : has_role p (node_in ns c).expression ≡ true = sym (ap (λ (x : Expression). is_part x (node_in ns c).expression) e) ∙ q.0 in
      let a = any-find (λ (b : Role). same (node_in ns c).expression (E.Role b)) (roles_of p) y in
      let o = roles-formed p (sym (ap well_formed e) ∙ nf.formed i l) in
      let u : slot_in p (node_in ns c).expression ≡ slot_in p (E.Role a.0) = ap (slot_in p) (same-eq (node_in ns c).expression (E.Role a.0) a.2) in
      omega (arith, role-found p o a.1)

  closed : (i : ℕ) → i < 128 → (w : ℕ) → node_at G i ≡ w
      → fails_by w (child_of (length es) G (λ f. not (at (failed_of (length es) G) f)) i) (child_of (length es) G (at (failed_of (length es) G)) i) ≡ true
      → at (failed_of (length es) G) i ≡ true
  closed i b w e h =
      failed-closed (length es) G i b (ap (λ (n : ℕ). fails_by n (child_of (length es) G (λ f. not (at (failed_of (length es) G) f)) i)
      (child_of (length es) G (at (failed_of (length es) G)) i)) e ∙ h)

  found : {i : ℕ} → Failed ns es i → at (failed_of (length es) G) i ≡ true
  unfolding fails_by
  found (failed-standard {i} e full h) =
      let l : i < length ns = failed-inside (failed-standard e full h) in
      let b : i < 128 = omega (arith, nf.few) in
      let a : child_of (length es) G (λ f. not (at (failed_of (length es) G) f)) i ≡ false =
      not-of (child_of (length es) G (λ f. not (at (failed_of (length es) G) f)) i)
      (λ t.
      let r = child-find (length es) G (λ f. not (at (failed_of (length es) G) f)) i t in
      let w = brought-at-all jn r.0 i r.1 r.3 r.2 in
      false-true (sym (not-true (at (failed_of (length es) G) (get_or F r.0 0)) r.4) ∙ found (h (get_or F r.0 0) (implied e w.1 w.2)))) in
      closed i b 1 (way_at i b refl ∙ way-one (node_in ns i).state (node_in ns i).expression e
      ∙ ap (λ (t : Bool). cond t 1 0) (eq-eqb (node_in ns i).state 3 full)) (ap (λ (t : Bool). not t || false) a)
  found (failed-intersection {i} {c} {p} e k h) =
      let l : i < length ns = failed-inside (failed-intersection e k h) in
      let b : i < 128 = omega (arith, nf.few) in
      let r = brought-here-all jn l (part-slot l e k) (joins e k) in
      let v : get_or S r.0 0 ≡ i * 4 + slot_in p (node_in ns c).expression = r.3 in
      let z : get_or F r.0 0 ≡ c = r.2 in
      closed i b 2 (way_at i b e)
      (child-here (length es) G (at (failed_of (length es) G)) i r.0 r.1 (omega (arith, part-slot l e k)) (omega (arith, k.inside, nf.few))
      (ap (at (failed_of (length es) G)) z ∙ found h))

  -- the columns' failed nodes
  pub failed-columns : (i : ℕ) → at (failed_of (length es) (graph F S W)) i ≡ at (failed_b ns es) i
  unfolding failed_of
  failed-columns i =
      bool_iff (at (failed_of (length es) G) i) (at (failed_b ns es) i)
      (λ h. (failed-exact ns es i).1 (least-into (failed_rule (length es) G) 128 (failed-mono (length es) G) (Failed ns es) step i h))
      (λ h. found ((failed-exact ns es i).0 h))
