-- Satisfied and failed exclude each other, and once a node is satisfied or failed it stays so (section 4.4). Assumes nothing.
use Rattle.std.specs.Prelude.{ℕ, ◌<◌, ◌≡◌, Bool, eqb, ltb, length}
use Rattle.std.proofs.Common.{arith, ◌∙◌, ap, subst, inl, inr, ⊎_elim}
use Rattle.std.proofs.Math.Path.{sym}
use Rattle.std.proofs.Math.Bool.{true}
use mathlib.Core.List.{List, Memᴰ}
use borrow.Author.Tests.{eqb-true, ltb-true, ltb-false}
use Rattle.std.proofs.Math.ListN.{get_or-eq_default}
use Rattle.expression.specs.declared.Role.{Role}
use Rattle.expression.specs.declared.Parts.{Parts}
use Rattle.expression.specs.declared.Expression.{Expression}
use Rattle.expression.specs.declared.Expression.TheVariants as E
use Rattle.expression.specs.Form.{raw_of}
use Rattle.expression.specs.Same.{same}
use Rattle.expression.specs.laws.Same.{same-eq}
use Rattle.rt0.specs.From.{roles_of}
use Rattle.rt0.specs.laws.Lists.{any-find}
use Rattle.word.specs.laws.Bools.{false-true, or_cases, and_parts}
use Rattle.graph.specs.declared.Node.{Node}
use Rattle.graph.specs.declared.Edge.{Edge}
use Rattle.propagation.specs.laws.Flags.{decided}
use Rattle.graph.specs.Graph.{node_in, blank}
use Rattle.graph.specs.Form.{is_standard, has_role, is_part, same_verifier, same_ends, form, Formed}
use Rattle.graph.specs.States.{intersection_kind, Child, FullyProcessed, Part, Satisfied, trivial, standard, intersection, Failed, failed-standard}
use Rattle.graph.specs.States.{failed-intersection, Complete}
use Rattle.graph.specs.Growth.{gains, Grown}

-- the kind of an expression
abbrev kind_of : Expression → ℕ
kind_of x = (raw_of x).kind

-- an expression is of one kind
entity-parts : {x : Expression} {a : ℕ} {p : Parts} → x ≡ E.Entity a → x ≡ E.Intersection p → ⊥
entity-parts e f = let z : ◌≡◌ {A = ℕ} 1 4 = ap kind_of (sym e ∙ f) in omega arith

entity-standard : {x : Expression} {a : ℕ} → x ≡ E.Entity a → is_standard x ≡ true → ⊥
entity-standard e h = false-true (sym (ap is_standard e) ∙ h)

parts-standard : {x : Expression} {p : Parts} → x ≡ E.Intersection p → is_standard x ≡ true → ⊥
parts-standard e h = false-true (sym (ap is_standard e) ∙ h)

-- the form of an intersection edge
form-intersection : (k v : ℕ) (p c : Node) → k ≡ 5 → form k v p c ≡ true → (is_part p.expression c.expression ≡ true) × (same_ends p c ≡ true)
unfolding form
form-intersection k v p c z h = and_parts (is_part p.expression c.expression) (same_ends p c) (sym (ap (λ (n : ℕ). form n v p c) z) ∙ h)

module _ {ns : List Node} {es : List Edge} (good : Formed ns es) where
  -- an intersection child is for one of the roles, and has its parent's verifier and subject
  part-child : {i c : ℕ} {p : Parts} → (node_in ns i).expression ≡ E.Intersection p → Child ns es intersection_kind i c
      → ((a : Role) × Memᴰ a (roles_of p) × ((node_in ns c).expression ≡ E.Role a)) × ((node_in ns c).verifier ≡ (node_in ns i).verifier)
      × ((node_in ns c).subject ≡ (node_in ns i).subject)
  unfolding has_role
  part-child {i} {c} {p} e h =
      let g = good.formed (record { kind = h.kind; parent = i; child = c }) h.edge in
      let f = form-intersection h.kind g.0 (node_in ns i) (node_in ns c) (eqb-true h.kind 5 h.passes) g.1 in
      let has : has_role p (node_in ns c).expression ≡ true = sym (ap (λ (x : Expression). is_part x (node_in ns c).expression) e) ∙ f.0 in
      let r = any-find (λ (a : Role). same (node_in ns c).expression (E.Role a)) (roles_of p) has in
      let s = and_parts (same_verifier (node_in ns i) (node_in ns c)) (eqb (node_in ns c).subject (node_in ns i).subject) f.1 in (
        (r.0, r.1, same-eq (node_in ns c).expression (E.Role r.0) r.2),
        eqb-true (node_in ns c).verifier (node_in ns i).verifier s.0,
        eqb-true (node_in ns c).subject (node_in ns i).subject s.1,
      )

  -- an intersection has one child for each role
  one-child : {i c d : ℕ} {a : Role} {p : Parts} → (node_in ns i).expression ≡ E.Intersection p → Child ns es intersection_kind i c
      → (node_in ns c).expression ≡ E.Role a → Part ns es i a d → c ≡ d
  one-child {i} {c} {d} e h r w =
      let x = part-child e h in
      let y = part-child e w.child in
      good.unique c d h.inside w.child.inside (r ∙ sym w.role) (x.1 ∙ sym y.1) (x.2 ∙ sym y.2)

  pub satisfied-failed : {i : ℕ} → Satisfied ns es i → Failed ns es i → ⊥
  satisfied-failed (trivial e) (failed-standard s p h) = entity-standard e s
  satisfied-failed (trivial e) (failed-intersection f h b) = entity-parts e f
  satisfied-failed (standard {c} s k g) (failed-standard t p h) = satisfied-failed g (h c k)
  satisfied-failed (standard s k g) (failed-intersection f h b) = parts-standard f s
  satisfied-failed (intersection e p f w g) (failed-standard s q h) = parts-standard e s
  satisfied-failed (intersection e p f w g) (failed-intersection q h b) =
      let r = (part-child e h).0 in
      satisfied-failed (g r.0 r.1) (subst (Failed ns es) (one-child e h r.2 (w r.0 r.1)) b)

-- a goal is never failed
pub complete-failed : {ns : List Node} {es : List Edge} {i : ℕ} → Complete ns es i → Failed ns es i → ⊥
complete-failed g (failed-standard s p h) = false-true (sym (ap is_standard g.goal) ∙ s)
complete-failed g (failed-intersection e k b) = let z : ◌≡◌ {A = ℕ} 5 4 = ap kind_of (sym g.goal ∙ e) in omega arith

-- a state with both bits stays
pub gains-all : (s t : ℕ) → s ≡ 3 → gains s t ≡ true → t ≡ 3
gains-all s t z h = ⊎_elim (λ b. eqb-true t 3 b) (λ b. sym (eqb-true 3 t b)) (or_cases (eqb t 3) (eqb 3 t) (sym (ap (λ (n : ℕ). gains n t) z) ∙ h))

-- a node past the end is blank
inside : (ns : List Node) (i : ℕ) → (node_in ns i ≡ blank → ⊥) → i < length ns
inside ns i h =
    ⊎_elim (λ b. ltb-true i (length ns) b) (λ b. absurd (h (get_or-eq_default ns blank (ltb-false i (length ns) b)))) (decided (ltb i (length ns)))

-- so it is neither processed nor satisfied nor failed
pub processed-inside : (ns : List Node) (i : ℕ) → FullyProcessed ns i → i < length ns
processed-inside ns i p = inside ns i (λ z. let w : ◌≡◌ {A = ℕ} 0 3 = sym (ap (λ (n : Node). n.state) z) ∙ p in omega arith)

pub satisfied-inside : {ns : List Node} {es : List Edge} {i : ℕ} → Satisfied ns es i → i < length ns
satisfied-inside {ns} {es} (trivial {i} e) =
    inside ns i (λ z. let w : ◌≡◌ {A = ℕ} 5 1 = sym (ap (λ (n : Node). kind_of n.expression) z) ∙ ap kind_of e in omega arith)
satisfied-inside {ns} {es} (standard {i} s k g) = inside ns i (λ z. false-true (sym (ap (λ (n : Node). is_standard n.expression) z) ∙ s))
satisfied-inside {ns} {es} (intersection {i} e p f w g) =
    inside ns i (λ z. let w : ◌≡◌ {A = ℕ} 5 4 = sym (ap (λ (n : Node). kind_of n.expression) z) ∙ ap kind_of e in omega arith)

pub failed-inside : {ns : List Node} {es : List Edge} {i : ℕ} → Failed ns es i → i < length ns
failed-inside {ns} {es} (failed-standard {i} s p h) = inside ns i (λ z. false-true (sym (ap (λ (n : Node). is_standard n.expression) z) ∙ s))
failed-inside {ns} {es} (failed-intersection {i} e k b) =
    inside ns i (λ z. let w : ◌≡◌ {A = ℕ} 5 4 = sym (ap (λ (n : Node). kind_of n.expression) z) ∙ ap kind_of e in omega arith)

module _ {ns ns' : List Node} {es es' : List Edge} (g : Grown ns es ns' es') where
  same-expression : (i : ℕ) → i < length ns → (node_in ns' i).expression ≡ (node_in ns i).expression
  same-expression i l = ap (λ (n : Node). n.expression) (g.same i l)

  -- "once a node is fully processed, it remains so thereafter"
  pub processed-stays : (i : ℕ) → i < length ns → FullyProcessed ns i → FullyProcessed ns' i
  processed-stays i l p = gains-all (node_in ns i).state (node_in ns' i).state p (g.gained i l)

  child-stays : {t : ℕ → Bool} {i c : ℕ} → Child ns es t i c → Child ns' es' t i c
  child-stays k =
      record {
        kind = k.kind;
        passes = k.passes;
        edge = subst (Memᴰ _) (sym g.edges) (mathlib.Core.List.Memᴰ.append_left g.added k.edge);
        inside = omega (arith, g.more, k.inside);
      }

  -- a fully processed node gets no other child
  child-back : {t : ℕ → Bool} {i c : ℕ} → FullyProcessed ns i → Child ns' es' t i c → Child ns es t i c
  child-back {t} {i} {c} p k =
      let e : Edge = record { kind = k.kind; parent = i; child = c } in
      let m : Memᴰ e es = ⊎_elim (λ m. m) (λ m. absurd (g.unprocessed e m p)) (mathlib.Core.List.Memᴰ.append_cases es (subst (Memᴰ e) g.edges k.edge)) in
      record { kind = k.kind; passes = k.passes; edge = m; inside = g.joined e m }

  pub satisfied-stays : {i : ℕ} → Satisfied ns es i → Satisfied ns' es' i
  satisfied-stays (trivial {i} e) = trivial (same-expression i (satisfied-inside {ns = ns} {es = es} (trivial e)) ∙ e)
  satisfied-stays (standard {i} s k h) =
      standard (ap is_standard (same-expression i (satisfied-inside (standard s k h))) ∙ s) (child-stays k) (satisfied-stays h)
  satisfied-stays (intersection {i} e p f w h) =
      let l : i < length ns = satisfied-inside (intersection e p f w h) in
      intersection (same-expression i l ∙ e) (processed-stays i l p) f
      (λ a m. record { child = child-stays (w a m).child; role = same-expression (f a m) (w a m).child.inside ∙ (w a m).role })
      (λ a m. satisfied-stays (h a m))

  pub failed-stays : {i : ℕ} → Failed ns es i → Failed ns' es' i
  failed-stays (failed-standard {i} s p h) =
      let l : i < length ns = failed-inside (failed-standard s p h) in
      failed-standard (ap is_standard (same-expression i l) ∙ s) (processed-stays i l p) (λ c k. failed-stays (h c (child-back p k)))
  failed-stays (failed-intersection {i} e k h) =
      failed-intersection (same-expression i (failed-inside (failed-intersection e k h)) ∙ e) (child-stays k) (failed-stays h)

  pub complete-stays : {i : ℕ} → Complete ns es i → Complete ns' es' i
  complete-stays {i} h =
      let l : i < length ns = processed-inside ns i h.processed in
      record {
        name = h.name;
        goal = same-expression i l ∙ h.goal;
        processed = processed-stays i l h.processed;
        solved = λ c k. ⊎_elim (λ s. inl (satisfied-stays s)) (λ f. inr (failed-stays f)) (h.solved c (child-back h.processed k));
      }
