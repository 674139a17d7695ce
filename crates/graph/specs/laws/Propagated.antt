-- What is computed is satisfied, failed or complete, and nothing is missed. Assumes nothing.
use Prim.Native.Nat.{ℕ}
use Rattle.std.proofs.Common.{arith, sym, ◌∙◌, subst}
use Rattle.std.specs.Prelude.{◌≡◌, ◌⊎◌, ◌↔◌, not, cond, ◌&&◌, ◌||◌, eqb, ltb, length}
use Rattle.std.proofs.Math.Path.{refl, ap}
use Rattle.std.proofs.Math.Logic.{inl, inr, ⊎_elim}
use Rattle.std.proofs.Math.Bool.{Bool, true, false}
use mathlib.Core.List.{List, Memᴰ}
use borrow.Author.Tests.{eq-eqb, eqb-true, lt-ltb, ltb-true}
use Rattle.expression.specs.declared.Role.{Role}
use Rattle.expression.specs.declared.Expression.{Expression}
use Rattle.expression.specs.declared.Expression.TheVariants as E
use Rattle.expression.specs.Same.{same}
use Rattle.expression.specs.laws.Same.{same-eq, eq-same}
use Rattle.rt0.specs.Lists.{all}
use Rattle.rt0.specs.laws.Lists.{any-find, any_here, all-each, all_of}
use Rattle.word.specs.laws.Bools.{false-true, or_cases, or_left, or_right, and_parts, and_both}
use Rattle.rt0.specs.From.{roles_of}
use Rattle.graph.specs.declared.Node.{Node}
use Rattle.graph.specs.declared.Edge.{Edge}
use Rattle.graph.specs.Graph.{node_in}
use Rattle.graph.specs.Form.{is_standard, Formed}
use Rattle.graph.specs.States.{implication_kind, solution_kind, intersection_kind, Child, Part, Satisfied, trivial, standard, intersection, Failed}
use Rattle.graph.specs.States.{failed-standard, failed-intersection, Complete}
use Rattle.graph.specs.laws.States.{satisfied-failed, complete-failed, satisfied-inside, failed-inside, satisfied-stays, failed-stays, complete-stays}
use Rattle.graph.specs.Growth.{Grown}
use Rattle.propagation.specs.laws.Flags.{decided}
use Rattle.propagation.specs.Flags.{at}
use Rattle.propagation.specs.laws.Least.{Monotone, least-closed, least-into}
use Rattle.graph.specs.Propagated.{is_child, any_child, all_children, any_part, satisfied_as, failed_as, satisfied_rule, failed_rule, satisfied_b, failed_b}
use Rattle.graph.specs.Propagated.{complete_as, complete_b, propagated_state}

module _ (ns : List Node) (es : List Edge) where
  -- Children

  child-of : {t : ℕ → Bool} {i : ℕ} (e : Edge) → Memᴰ e es → is_child ns es t i e ≡ true → Child ns es t i e.child
  child-of {t} {i} e m h =
      let p = and_parts (t e.kind && eqb e.parent i) (ltb e.child (length ns)) h in
      let q = and_parts (t e.kind) (eqb e.parent i) p.0 in
      record {
        kind = e.kind;
        passes = q.0;
        edge = subst (λ (n : ℕ). Memᴰ (record { kind = e.kind; parent = n; child = e.child }) es) (eqb-true e.parent i q.1) m;
        inside = ltb-true e.child (length ns) p.1;
      }

  -- the edge that brings a child
  abbrev edge_of : {t : ℕ → Bool} {i c : ℕ} → Child ns es t i c → Edge
  edge_of {i = i} {c = c} k = record { kind = k.kind; parent = i; child = c }

  is-child : {t : ℕ → Bool} {i c : ℕ} (k : Child ns es t i c) → is_child ns es t i (edge_of k) ≡ true
  is-child {t} {i} {c} k =
      and_both (t k.kind && eqb i i) (ltb c (length ns)) (and_both (t k.kind) (eqb i i) k.passes (eq-eqb i i refl)) (lt-ltb c (length ns) k.inside)

  module _ (t s : ℕ → Bool) (i : ℕ) where
    any-child : any_child ns es t s i ≡ true → (c : ℕ) × Child ns es t i c × (s c ≡ true)
    any-child h =
        let r = any-find (λ e. is_child ns es t i e && s e.child) es h in
        let p = and_parts (is_child ns es t i r.0) (s r.0.child) r.2 in
        (r.0.child, child-of r.0 r.1 p.0, p.1)

    child-any : {c : ℕ} → Child ns es t i c → s c ≡ true → any_child ns es t s i ≡ true
    child-any {c} k h = any_here (λ e. is_child ns es t i e && s e.child) k.edge (and_both (is_child ns es t i (edge_of k)) (s c) (is-child k) h)

    all-children : all_children ns es t s i ≡ true → (c : ℕ) → Child ns es t i c → s c ≡ true
    all-children h c k =
        ⊎_elim (λ b. absurd (false-true (sym (ap not (is-child k)) ∙ b))) (λ b. b)
        (or_cases (not (is_child ns es t i (edge_of k))) (s c) (all-each (λ e. not (is_child ns es t i e) || s e.child) k.edge h))

    children-all : ((c : ℕ) → Child ns es t i c → s c ≡ true) → all_children ns es t s i ≡ true
    children-all h =
        all_of (λ e. not (is_child ns es t i e) || s e.child) es
        (λ e m. ⊎_elim (λ b. or_right (not (is_child ns es t i e)) (s e.child) (h e.child (child-of e m b)))
        (λ b. or_left (not (is_child ns es t i e)) (s e.child) (ap not b)) (decided (is_child ns es t i e)))

  module _ (s : ℕ → Bool) (i : ℕ) (a : Role) where
    any_part_lem : any_part ns es s i a ≡ true → (c : ℕ) × Part ns es i a c × (s c ≡ true)
    any_part_lem h =
        let r = any-find (λ e. is_child ns es intersection_kind i e && same (node_in ns e.child).expression (E.Role a) && s e.child) es h in
        let x : Expression = (node_in ns r.0.child).expression in
        let p = and_parts (is_child ns es intersection_kind i r.0 && same x (E.Role a)) (s r.0.child) r.2 in
        let q = and_parts (is_child ns es intersection_kind i r.0) (same x (E.Role a)) p.0 in
        (r.0.child, record { child = child-of r.0 r.1 q.0; role = same-eq x (E.Role a) q.1 }, p.1)

    part-any : {c : ℕ} → Part ns es i a c → s c ≡ true → any_part ns es s i a ≡ true
    part-any {c} w h =
        let x : Expression = (node_in ns c).expression in
        any_here (λ e. is_child ns es intersection_kind i e && same (node_in ns e.child).expression (E.Role a) && s e.child) w.child.edge
        (and_both (is_child ns es intersection_kind i (edge_of w.child) && same x (E.Role a)) (s c)
        (and_both (is_child ns es intersection_kind i (edge_of w.child)) (same x (E.Role a)) (is-child w.child) (eq-same x (E.Role a) w.role)) h)

  -- Satisfied

  satisfied-mono : Monotone (satisfied_rule ns es)
  satisfied-mono = record { mono = λ s t h i g. go s t h i (node_in ns i).expression g }
    where
      more : (s t : ℕ → Bool) → ((i : ℕ) → s i ≡ true → t i ≡ true) → (i : ℕ) → any_child ns es implication_kind s i ≡ true
          → any_child ns es implication_kind t i ≡ true
      more s t h i g = let r = any-child implication_kind s i g in child-any implication_kind t i r.1 (h r.0 r.2)

      go : (s t : ℕ → Bool) → ((i : ℕ) → s i ≡ true → t i ≡ true) → (i : ℕ) (x : Expression) → satisfied_as ns es s i (node_in ns i).state x ≡ true
          → satisfied_as ns es t i (node_in ns i).state x ≡ true
      go s t h i (E.Entity a) g = refl
      go s t h i (E.Role a) g = more s t h i g
      go s t h i (E.Linked a r) g = more s t h i g
      go s t h i (E.Intersection q) g =
          let p = and_parts (eqb (node_in ns i).state 3) (all (any_part ns es s i) (roles_of q)) g in
          and_both (eqb (node_in ns i).state 3) (all (any_part ns es t i) (roles_of q)) p.0
          (all_of (any_part ns es t i) (roles_of q) (λ a m. let r = any_part_lem s i a (all-each (any_part ns es s i) m p.1) in part-any t i a r.1
          (h r.0 r.2)))
      go s t h i (E.Goal r) g = absurd (false-true g)

  -- what the rule brings is satisfied
  satisfied-step : (s : ℕ → Bool) → ((i : ℕ) → s i ≡ true → Satisfied ns es i) → (i : ℕ) → satisfied_rule ns es s i ≡ true → Satisfied ns es i
  satisfied-step s ih i h = go (node_in ns i).expression refl h
    where
      implied : is_standard (node_in ns i).expression ≡ true → any_child ns es implication_kind s i ≡ true → Satisfied ns es i
      implied e g = let r = any-child implication_kind s i g in standard e r.1 (ih r.0 r.2)

      go : (x : Expression) → (node_in ns i).expression ≡ x → satisfied_as ns es s i (node_in ns i).state x ≡ true → Satisfied ns es i
      go (E.Entity a) e g = trivial e
      go (E.Role a) e g = implied (ap is_standard e) g
      go (E.Linked a r) e g = implied (ap is_standard e) g
      go (E.Intersection q) e g =
          let p = and_parts (eqb (node_in ns i).state 3) (all (any_part ns es s i) (roles_of q)) g in
          let part : (a : Role) → Memᴰ a (roles_of q)
          → (c : ℕ) × Part ns es i a c × (s c ≡ true) = λ a m. any_part_lem s i a (all-each (any_part ns es s i) m p.1) in
          intersection e (eqb-true (node_in ns i).state 3 p.0) (λ a m. (part a m).0) (λ a m. (part a m).1) (λ a m. ih (part a m).0 (part a m).2)
      go (E.Goal r) e g = absurd (false-true g)

  -- an implication child satisfies a standard target
  standard-rule : (s : ℕ → Bool) (i p : ℕ) (x : Expression) → is_standard x ≡ true → any_child ns es implication_kind s i ≡ true → satisfied_as ns es s i p x ≡ true
  standard-rule s i p (E.Entity a) e g = absurd (false-true e)
  standard-rule s i p (E.Role a) e g = g
  standard-rule s i p (E.Linked a r) e g = g
  standard-rule s i p (E.Intersection q) e g = absurd (false-true e)
  standard-rule s i p (E.Goal r) e g = absurd (false-true e)

  satisfied-found : {i : ℕ} → Satisfied ns es i → at (satisfied_b ns es) i ≡ true
  unfolding satisfied_b
  satisfied-found (trivial {i} e) =
      least-closed (satisfied_rule ns es) (length ns) satisfied-mono i (satisfied-inside {ns = ns} {es = es} (trivial e))
      (ap (satisfied_as ns es (at (satisfied_b ns es)) i (node_in ns i).state) e)
  satisfied-found (standard {i} e k g) =
      least-closed (satisfied_rule ns es) (length ns) satisfied-mono i (satisfied-inside (standard e k g))
      (standard-rule (at (satisfied_b ns es)) i (node_in ns i).state (node_in ns i).expression e
      (child-any implication_kind (at (satisfied_b ns es)) i k (satisfied-found g)))
  satisfied-found (intersection {i} {p} e full f w g) =
      let s : ℕ → Bool = at (satisfied_b ns es) in
      least-closed (satisfied_rule ns es) (length ns) satisfied-mono i (satisfied-inside (intersection e full f w g))
      (ap (satisfied_as ns es s i (node_in ns i).state) e
      ∙ and_both (eqb (node_in ns i).state 3) (all (any_part ns es s i) (roles_of p)) (eq-eqb (node_in ns i).state 3 full)
      (all_of (any_part ns es s i) (roles_of p) (λ a m. part-any s i a (w a m) (satisfied-found (g a m)))))

  pub satisfied-exact : (i : ℕ) → (at (satisfied_b ns es) i ≡ true) ↔ Satisfied ns es i
  unfolding satisfied_b
  satisfied-exact i =
      (least-into (satisfied_rule ns es) (length ns) satisfied-mono (Satisfied ns es) (λ s ih j l h. satisfied-step s ih j h) i, λ h. satisfied-found h)

  -- Failed

  failed-mono : Monotone (failed_rule ns es)
  failed-mono = record { mono = λ s t h i g. go s t h i (node_in ns i).expression g }
    where
      more : (s t : ℕ → Bool) → ((i : ℕ) → s i ≡ true → t i ≡ true) → (i p : ℕ) → (eqb p 3 && all_children ns es implication_kind s i) ≡ true
          → (eqb p 3 && all_children ns es implication_kind t i) ≡ true
      more s t h i p g =
          let r = and_parts (eqb p 3) (all_children ns es implication_kind s i) g in
          and_both (eqb p 3) (all_children ns es implication_kind t i) r.0
          (children-all implication_kind t i (λ c k. h c (all-children implication_kind s i r.1 c k)))

      go : (s t : ℕ → Bool) → ((i : ℕ) → s i ≡ true → t i ≡ true) → (i : ℕ) (x : Expression) → failed_as ns es s i (node_in ns i).state x ≡ true
          → failed_as ns es t i (node_in ns i).state x ≡ true
      go s t h i (E.Entity a) g = absurd (false-true g)
      go s t h i (E.Role a) g = more s t h i (node_in ns i).state g
      go s t h i (E.Linked a r) g = more s t h i (node_in ns i).state g
      go s t h i (E.Intersection q) g = let r = any-child intersection_kind s i g in child-any intersection_kind t i r.1 (h r.0 r.2)
      go s t h i (E.Goal r) g = absurd (false-true g)

  -- what the rule brings is failed
  failed-step : (s : ℕ → Bool) → ((i : ℕ) → s i ≡ true → Failed ns es i) → (i : ℕ) → failed_rule ns es s i ≡ true → Failed ns es i
  failed-step s ih i h = go (node_in ns i).expression refl h
    where
      unimplied : is_standard (node_in ns i).expression ≡ true → (eqb (node_in ns i).state 3 && all_children ns es implication_kind s i) ≡ true → Failed ns es i
      unimplied e g =
          let r = and_parts (eqb (node_in ns i).state 3) (all_children ns es implication_kind s i) g in
          failed-standard e (eqb-true (node_in ns i).state 3 r.0) (λ c k. ih c (all-children implication_kind s i r.1 c k))

      go : (x : Expression) → (node_in ns i).expression ≡ x → failed_as ns es s i (node_in ns i).state x ≡ true → Failed ns es i
      go (E.Entity a) e g = absurd (false-true g)
      go (E.Role a) e g = unimplied (ap is_standard e) g
      go (E.Linked a r) e g = unimplied (ap is_standard e) g
      go (E.Intersection q) e g = let r = any-child intersection_kind s i g in failed-intersection e r.1 (ih r.0 r.2)
      go (E.Goal r) e g = absurd (false-true g)

  -- a fully processed standard target whose implication children are all failed
  unimplied-rule : (s : ℕ → Bool) (i p : ℕ) (x : Expression) → is_standard x ≡ true → (eqb p 3 && all_children ns es implication_kind s i) ≡ true
      → failed_as ns es s i p x ≡ true
  unimplied-rule s i p (E.Entity a) e g = absurd (false-true e)
  unimplied-rule s i p (E.Role a) e g = g
  unimplied-rule s i p (E.Linked a r) e g = g
  unimplied-rule s i p (E.Intersection q) e g = absurd (false-true e)
  unimplied-rule s i p (E.Goal r) e g = absurd (false-true e)

  failed-found : {i : ℕ} → Failed ns es i → at (failed_b ns es) i ≡ true
  unfolding failed_b
  failed-found (failed-standard {i} e full h) =
      let s : ℕ → Bool = at (failed_b ns es) in
      least-closed (failed_rule ns es) (length ns) failed-mono i (failed-inside (failed-standard e full h))
      (unimplied-rule s i (node_in ns i).state (node_in ns i).expression e
      (and_both (eqb (node_in ns i).state 3) (all_children ns es implication_kind s i) (eq-eqb (node_in ns i).state 3 full)
      (children-all implication_kind s i (λ c k. failed-found (h c k)))))
  failed-found (failed-intersection {i} e k h) =
      let s : ℕ → Bool = at (failed_b ns es) in
      least-closed (failed_rule ns es) (length ns) failed-mono i (failed-inside (failed-intersection e k h))
      (ap (failed_as ns es s i (node_in ns i).state) e ∙ child-any intersection_kind s i k (failed-found h))

  pub failed-exact : (i : ℕ) → (at (failed_b ns es) i ≡ true) ↔ Failed ns es i
  unfolding failed_b
  failed-exact i = (least-into (failed_rule ns es) (length ns) failed-mono (Failed ns es) (λ s ih j l h. failed-step s ih j h) i, λ h. failed-found h)

  -- Complete

  -- a child that is satisfied or failed
  abbrev settled : ℕ → Bool
  settled c = at (satisfied_b ns es) c || at (failed_b ns es) c

  pub complete-exact : (i : ℕ) → (complete_b ns es i ≡ true) ↔ Complete ns es i
  unfolding complete_b
  complete-exact i = (λ h. go (node_in ns i).expression refl h, back)
    where
      go : (x : Expression) → (node_in ns i).expression ≡ x → complete_as ns es i (node_in ns i).state x ≡ true → Complete ns es i
      go (E.Entity a) e h = absurd (false-true h)
      go (E.Role a) e h = absurd (false-true h)
      go (E.Linked a r) e h = absurd (false-true h)
      go (E.Intersection q) e h = absurd (false-true h)
      go (E.Goal r) e h =
          let p = and_parts (eqb (node_in ns i).state 3) (all_children ns es solution_kind settled i) h in
          record {
            name = r;
            goal = e;
            processed = eqb-true (node_in ns i).state 3 p.0;
            solved =
                λ c k. ⊎_elim (λ b. inl ((satisfied-exact c).0 b)) (λ b. inr ((failed-exact c).0 b))
                (or_cases (at (satisfied_b ns es) c) (at (failed_b ns es) c) (all-children solution_kind settled i p.1 c k));
          }

      back : Complete ns es i → complete_as ns es i (node_in ns i).state (node_in ns i).expression ≡ true
      back h =
          ap (complete_as ns es i (node_in ns i).state) h.goal
          ∙ and_both (eqb (node_in ns i).state 3) (all_children ns es solution_kind settled i) (eq-eqb (node_in ns i).state 3 h.processed)
          (children-all solution_kind settled i (λ c k. ⊎_elim (λ b. or_left (at (satisfied_b ns es) c) (at (failed_b ns es) c) ((satisfied-exact c).1 b))
          (λ b. or_right (at (satisfied_b ns es) c) (at (failed_b ns es) c) ((failed-exact c).1 b)) (h.solved c k)))

  -- The propagated state

  -- 1 by the first test, 2 by the second where the first fails, else 0
  abbrev chosen : Bool → Bool → ℕ
  chosen a b = cond a 1 (cond b 2 0)

  chosen-one : (a b : Bool) → chosen a b ≡ 1 → a ≡ true
  chosen-one true b h = refl
  chosen-one false true h = absurd (let z : ◌≡◌ {A = ℕ} 2 1 = h in omega arith)
  chosen-one false false h = absurd (let z : ◌≡◌ {A = ℕ} 0 1 = h in omega arith)

  chosen-two : (a b : Bool) → chosen a b ≡ 2 → b ≡ true
  chosen-two true b h = absurd (let z : ◌≡◌ {A = ℕ} 1 2 = h in omega arith)
  chosen-two false true h = refl
  chosen-two false false h = absurd (let z : ◌≡◌ {A = ℕ} 0 2 = h in omega arith)

  chosen-zero : (a b : Bool) → chosen a b ≡ 0 → (a ≡ false) × (b ≡ false)
  chosen-zero true b h = absurd (let z : ◌≡◌ {A = ℕ} 1 0 = h in omega arith)
  chosen-zero false true h = absurd (let z : ◌≡◌ {A = ℕ} 2 0 = h in omega arith)
  chosen-zero false false h = (refl, refl)

  module _ (i : ℕ) where
    good : (at (satisfied_b ns es) i || complete_b ns es i) ≡ true → Satisfied ns es i ⊎ Complete ns es i
    good h = ⊎_elim (λ b. inl ((satisfied-exact i).0 b)) (λ b. inr ((complete-exact i).0 b)) (or_cases (at (satisfied_b ns es) i) (complete_b ns es i) h)

    good-found : Satisfied ns es i ⊎ Complete ns es i → (at (satisfied_b ns es) i || complete_b ns es i) ≡ true
    good-found h =
        ⊎_elim (λ g. or_left (at (satisfied_b ns es) i) (complete_b ns es i) ((satisfied-exact i).1 g))
        (λ g. or_right (at (satisfied_b ns es) i) (complete_b ns es i) ((complete-exact i).1 g)) h

    not_good : ((Satisfied ns es i ⊎ Complete ns es i) → ⊥) → (at (satisfied_b ns es) i || complete_b ns es i) ≡ false
    not_good h = ⊎_elim (λ b. absurd (h (good b))) (λ b. b) (decided (at (satisfied_b ns es) i || complete_b ns es i))

    not-failed : (Failed ns es i → ⊥) → at (failed_b ns es) i ≡ false
    not-failed h = ⊎_elim (λ b. absurd (h ((failed-exact i).0 b))) (λ b. b) (decided (at (failed_b ns es) i))

    -- 1: satisfied or complete
    pub state-one : (propagated_state ns es i ≡ 1) ↔ (Satisfied ns es i ⊎ Complete ns es i)
    unfolding propagated_state
    state-one = (
      λ h. good (chosen-one (at (satisfied_b ns es) i || complete_b ns es i) (at (failed_b ns es) i) h),
      λ h. ap
          (λ (b : Bool). chosen b (at (failed_b ns es) i)) (good-found h),
    )

    -- 2: failed
    pub state-two : Formed ns es → (propagated_state ns es i ≡ 2) ↔ Failed ns es i
    unfolding propagated_state
    state-two formed = (
      λ h. (failed-exact i).0 (chosen-two (at (satisfied_b ns es) i || complete_b ns es i) (at (failed_b ns es) i) h),
      λ h. let a : (at (satisfied_b ns es) i || complete_b ns es i)
          ≡ false = not_good (λ g. ⊎_elim (λ s. satisfied-failed formed s h) (λ c. complete-failed c h) g) in (λ j. chosen (a j) ((failed-exact i).1 h j)),
    )

    -- 0: none of these
    pub state-zero : (propagated_state ns es i ≡ 0) ↔ (((Satisfied ns es i ⊎ Complete ns es i) → ⊥) × (Failed ns es i → ⊥))
    unfolding propagated_state
    state-zero = (
      λ h. let r =
          chosen-zero (at (satisfied_b ns es) i || complete_b ns es i) (at (failed_b ns es) i) h in
          (λ g. false-true (sym r.0 ∙ good-found g), λ f. false-true (sym r.1 ∙ (failed-exact i).1 f)),
      λ h. (λ j. chosen (not_good h.0 j) (not-failed h.1 j)),
    )

-- "once a target becomes satisfied or failed, it retains that state", and so does a complete goal
module _ {ns ns' : List Node} {es es' : List Edge} (g : Grown ns es ns' es') (i : ℕ) where
  pub one-stays : propagated_state ns es i ≡ 1 → propagated_state ns' es' i ≡ 1
  one-stays h = (state-one ns' es' i).1 (⊎_elim (λ s. inl (satisfied-stays g s)) (λ c. inr (complete-stays g c)) ((state-one ns es i).0 h))

  pub two-stays : Formed ns es → Formed ns' es' → propagated_state ns es i ≡ 2 → propagated_state ns' es' i ≡ 2
  two-stays formed formed' h = (state-two ns' es' i formed').1 (failed-stays g ((state-two ns es i formed).0 h))
