-- Edges stay as they are judged while the graph grows. Assumes nothing.
use Prim.Native.Nat.{ℕ, zero, suc, ◌≤◌, ◌<◌}
use native.Mathlib.Omega.{arith}
use Rattle.std.specs.Prelude.{◌≡◌, Bool, ◌&&◌, ◌||◌, get_or}
use Rattle.std.proofs.Math.Path.{refl, subst}
use Rattle.std.proofs.Common.{sym, ◌∙◌, ap}
use Rattle.std.proofs.Math.Logic.{⊎_elim}
use Rattle.std.proofs.Math.Bool.{true, false, not, cond}
use mathlib.Core.List.Memᴰ
use mathlib.Core.List.{List, [], ◌∷◌, ◌++◌, append_assoc, append-nil, Memᴰ}
use borrow.Author.Tests.{lt-ltb, le-leb, ltb-true, eqb-true}
use Rattle.std.proofs.Math.Dec.{eqb, ltb, leb}
use Rattle.std.proofs.Math.ListN.{length}
use Rattle.expression.specs.declared.Credential.{Credential}
use Rattle.expression.specs.declared.Expression.{Expression}
use Rattle.rt0.specs.Lists.{any}
use Rattle.rt0.specs.laws.Lists.{any-find, any_here}
use Rattle.word.specs.laws.Bools.{and_parts, and_both, or_cases, or_left, or_right}
use Rattle.rt0.specs.Decide.{from? as from_of}
use Rattle.propagation.specs.Flags.{at}
use Rattle.graph.specs.declared.Node.{Node}
use Rattle.graph.specs.declared.Edge.{Edge}
use Rattle.graph.specs.Graph.{node_in}
use Rattle.graph.specs.Form.{form}
use Rattle.graph.specs.Find.{has_edge}
use Rattle.graph.specs.States.{solution_kind}
use Rattle.graph.specs.Growth.{Grown}
use Rattle.graph.specs.laws.States.{satisfied-stays}
use Rattle.graph.specs.Propagated.{is_child, satisfied_b}
use Rattle.graph.specs.laws.Propagated.{satisfied-exact}
use Rattle.justification.specs.InTurn.{in_turn}
use Rattle.justification.specs.Justified.{monitor_kind, is_solution_for, solves, solved, monitors, monitored, implied, implied_if, monitored_if, justified}
use Rattle.negotiation.specs.declared.Header.{Header}
use Rattle.negotiation.specs.Ends.{entity_of}
use Rattle.damage.specs.Edges.{brought, placed, formed, edge_fits}
use Rattle.damage.specs.laws.Edges.{placed-inside, brought-more}

-- Elements in turn

module _ {A : Type 0} where
  -- all of a list have a property
  abbrev pub Each : (A → Type 0) → List A → Type 0
  Each P xs = (x : A) → Memᴰ x xs → P x

  each_more : (P : A → Type 0) (xs : List A) (x : A) → Each P xs → P x → Each P (xs ++ (x ∷ []))
  each_more P xs x h p y m = ⊎_elim (h y) (λ k. subst P (sym (Memᴰ.eq_of_singleton k)) p) (Memᴰ.append_cases xs m)

  -- one element more at the end
  pub turn_last : (t : List A → A → Bool) (before xs : List A) (x : A) → in_turn t before xs ≡ true → t (before ++ xs) x ≡ true
      → in_turn t before (xs ++ (x ∷ [])) ≡ true
  unfolding in_turn
  turn_last t before [] x h k = and_both (t before x) true (ap (λ (l : List A). t l x) (sym (append-nil before)) ∙ k) refl
  turn_last t before (y ∷ ys) x h k =
      let p = and_parts (t before y) (in_turn t (before ++ (y ∷ [])) ys) h in
      and_both (t before y) (in_turn t (before ++ (y ∷ [])) (ys ++ (x ∷ []))) p.0
      (turn_last t (before ++ (y ∷ [])) ys x p.1 (ap (λ (l : List A). t l x) (append_assoc before (y ∷ []) ys) ∙ k))

  -- a test that passes wherever another does, of elements with a property
  pub turn_more : (P : A → Type 0) (t u : List A → A → Bool) → ((b : List A) (x : A) → Each P b → P x → t b x ≡ true → u b x ≡ true)
      → (before xs : List A) → Each P before → Each P xs → in_turn t before xs ≡ true → in_turn u before xs ≡ true
  unfolding in_turn
  turn_more P t u f before [] b e h = refl
  turn_more P t u f before (x ∷ xs) b e h =
      let p = and_parts (t before x) (in_turn t (before ++ (x ∷ [])) xs) h in
      let here : P x = e x (Memᴰ.head refl) in
      and_both (u before x) (in_turn u (before ++ (x ∷ [])) xs) (f before x b here p.0)
      (turn_more P t u f (before ++ (x ∷ [])) xs (each_more P before x b here) (λ y m. e y (Memᴰ.tail m)) p.1)

  -- each element passes behind some others
  pub turn_at : (t : List A → A → Bool) (d : A) (before xs : List A) → in_turn t before xs ≡ true → (i : ℕ) → i < length xs
      → (b : List A) × (t b (get_or xs i d) ≡ true)
  unfolding in_turn
  turn_at t d before [] h i l = absurd (omega arith)
  turn_at t d before (x ∷ xs) h zero l = (before, (and_parts (t before x) (in_turn t (before ++ (x ∷ [])) xs) h).0)
  turn_at t d before (x ∷ xs) h (suc i) l = turn_at t d (before ++ (x ∷ [])) xs (and_parts (t before x) (in_turn t (before ++ (x ∷ [])) xs) h).1 i (omega arith)

-- Edges join nodes

abbrev pub Ends : ℕ → Edge → Type 0
Ends n e = (e.parent < n) × (e.child < n)

module _ (h : Header) (ns : List Node) where
  pub fits-parts : (before : List Edge) (e : Edge) → edge_fits h ns before e ≡ true
      → (placed (length ns) (brought before) e ≡ true) × (formed h ns e ≡ true) × (not (has_edge before e) ≡ true)
  unfolding edge_fits
  fits-parts before e k =
      let p = and_parts (placed (length ns) (brought before) e && formed h ns e) (not (has_edge before e)) k in
      let q = and_parts (placed (length ns) (brought before) e) (formed h ns e) p.0 in
      (q.0, q.1, p.1)

  pub fits-of : (before : List Edge) (e : Edge) → e.parent < brought before → e.child ≤ brought before → e.child < length ns
      → eqb e.parent e.child ≡ false → formed h ns e ≡ true → has_edge before e ≡ false
      → edge_fits h ns before e ≡ true
  unfolding edge_fits placed
  fits-of before e p c i d f x =
      let b : ℕ = brought before in
      and_both (placed (length ns) b e && formed h ns e) (not (has_edge before e))
      (and_both (placed (length ns) b e) (formed h ns e)
      (and_both (ltb e.parent b && leb e.child b && ltb e.child (length ns)) (not (eqb e.parent e.child))
      (and_both (ltb e.parent b && leb e.child b) (ltb e.child (length ns))
      (and_both (ltb e.parent b) (leb e.child b) (lt-ltb e.parent b p) (le-leb e.child b c)) (lt-ltb e.child (length ns) i))
      (ap not d)) f) (ap not x)

  -- no more nodes are brought than stand
  brought-few : (before : List Edge) (e : Edge) → brought before ≤ length ns → e.child < length ns → brought (before ++ (e ∷ [])) ≤ length ns
  unfolding brought
  brought-few before e few l =
      subst (λ (b : ℕ). b ≤ length ns) (sym (brought-more 1 before e)) (next (brought before) few (eqb e.child (brought before)) refl)
    where
      next : (b : ℕ) → b ≤ length ns → (t : Bool) → eqb e.child b ≡ t → cond t (suc b) b ≤ length ns
      next b few true q = let z : e.child ≡ b = eqb-true e.child b q in omega arith
      next b few false q = few

  pub edges-ends : (before es : List Edge) → brought before ≤ length ns → in_turn (edge_fits h ns) before es ≡ true → Each (Ends (length ns)) es
  unfolding in_turn
  edges-ends before [] few k e m = absurd (Memᴰ.not-nil m)
  edges-ends before (d ∷ es) few k e m =
      let p = and_parts (edge_fits h ns before d) (in_turn (edge_fits h ns) (before ++ (d ∷ [])) es) k in
      let i = placed-inside (length ns) (brought before) d few (fits-parts before d p.0).0 in
      ⊎_elim (λ z. subst (Ends (length ns)) (sym z) i) (λ l. edges-ends (before ++ (d ∷ [])) es (brought-few before d few i.1) p.1 e l)
      (Memᴰ.cases_cons m)

-- Growth

module _ {ns ns' : List Node} {es es' : List Edge} (g : Grown ns es ns' es') where
  same-expression : (i : ℕ) → i < length ns → (node_in ns i).expression ≡ (node_in ns' i).expression
  same-expression i l = sym (ap (λ (n : Node). n.expression) (g.same i l))

  same-subject : (i : ℕ) → i < length ns → (node_in ns i).subject ≡ (node_in ns' i).subject
  same-subject i l = sym (ap (λ (n : Node). n.subject) (g.same i l))

  -- forms do not look at states
  pub formed-stays : (h : Header) (e : Edge) → Ends (length ns) e → formed h ns e ≡ true → formed h ns' e ≡ true
  unfolding formed form
  formed-stays h e l k =
      (λ i. form e.kind (entity_of h (g.same e.parent l.0 i).verifier) (g.same e.parent l.0 i) (g.same e.child l.1 i)) ∙ k

  placed-stays : (b : ℕ) (e : Edge) → placed (length ns) b e ≡ true → placed (length ns') b e ≡ true
  unfolding placed
  placed-stays b e k =
      let p = and_parts (ltb e.parent b && leb e.child b && ltb e.child (length ns)) (not (eqb e.parent e.child)) k in
      let q = and_parts (ltb e.parent b && leb e.child b) (ltb e.child (length ns)) p.0 in
      let l : e.child < length ns = ltb-true e.child (length ns) q.1 in
      and_both (ltb e.parent b && leb e.child b && ltb e.child (length ns')) (not (eqb e.parent e.child))
      (and_both (ltb e.parent b && leb e.child b) (ltb e.child (length ns')) q.0 (lt-ltb e.child (length ns') (omega (arith, g.more)))) p.1

  -- an edge that fits still does
  pub fits-stays : (h : Header) (before : List Edge) (e : Edge) → Ends (length ns) e → edge_fits h ns before e ≡ true → edge_fits h ns' before e ≡ true
  unfolding edge_fits
  fits-stays h before e l k =
      let p = fits-parts h ns before e k in
      and_both (placed (length ns') (brought before) e && formed h ns' e) (not (has_edge before e))
      (and_both (placed (length ns') (brought before) e) (formed h ns' e) (placed-stays (brought before) e p.0) (formed-stays h e l p.1)) p.2

  implied-stays : (shown : List Credential) (e : Edge) → Ends (length ns) e → implied_if shown ns e ≡ true → implied_if shown ns' e ≡ true
  unfolding implied_if implied
  implied-stays shown e l k =
      (λ i. not (eqb e.kind 1) || from_of shown (sym (same-expression e.parent l.0) i) (sym (same-expression e.child l.1) i)) ∙ k

  child-stays : (t : ℕ → Bool) (p : ℕ) (d : Edge) → is_child ns es t p d ≡ true → is_child ns' es' t p d ≡ true
  child-stays t p d k =
      let q = and_parts (t d.kind && eqb d.parent p) (ltb d.child (length ns)) k in
      let l : d.child < length ns = ltb-true d.child (length ns) q.1 in
      and_both (t d.kind && eqb d.parent p) (ltb d.child (length ns')) q.0 (lt-ltb d.child (length ns') (omega (arith, g.more)))

  child-inside : (t : ℕ → Bool) (p : ℕ) (d : Edge) → is_child ns es t p d ≡ true → d.child < length ns
  child-inside t p d k = ltb-true d.child (length ns) (and_parts (t d.kind && eqb d.parent p) (ltb d.child (length ns)) k).1

  solves-stays : (x : Expression) (b p : ℕ) (d : Edge) → solves ns es x b p d ≡ true → solves ns' es' x b p d ≡ true
  unfolding solves
  solves-stays x b p d k =
      let q = and_parts (is_child ns es solution_kind p d && is_solution_for x b (node_in ns d.child).expression) (at (satisfied_b ns es) d.child) k in
      let r = and_parts (is_child ns es solution_kind p d) (is_solution_for x b (node_in ns d.child).expression) q.0 in
      and_both (is_child ns' es' solution_kind p d && is_solution_for x b (node_in ns' d.child).expression) (at (satisfied_b ns' es') d.child)
      (and_both (is_child ns' es' solution_kind p d) (is_solution_for x b (node_in ns' d.child).expression) (child-stays solution_kind p d r.0)
      (ap (is_solution_for x b) (sym (same-expression d.child (child-inside solution_kind p d r.0))) ∙ r.1))
      ((satisfied-exact ns' es' d.child).1 (satisfied-stays g ((satisfied-exact ns es d.child).0 q.1)))

module _ {ns ns' : List Node} {es : List Edge} (g : Grown ns es ns' es) where
  solved-stays : (x : Expression) (b p : ℕ) → solved ns es x b p ≡ true → solved ns' es x b p ≡ true
  unfolding solved
  solved-stays x b p k = let r = any-find (solves ns es x b p) es k in any_here (solves ns' es x b p) r.1 (solves-stays g x b p r.0 r.2)

  monitors-stays : (x : Expression) (b p : ℕ) (d : Edge) → monitors ns es x b p d ≡ true → monitors ns' es x b p d ≡ true
  unfolding monitors
  monitors-stays x b p d k =
      let q = and_parts (is_child ns es monitor_kind p d) (solved ns es x b d.child) k in
      and_both (is_child ns' es monitor_kind p d) (solved ns' es x b d.child) (child-stays g monitor_kind p d q.0) (solved-stays x b d.child q.1)

  monitored-stays : (e : Edge) → Ends (length ns) e → monitored ns es e ≡ true → monitored ns' es e ≡ true
  unfolding monitored
  monitored-stays e l k =
      let x : Expression = (node_in ns e.parent).expression in
      let b : ℕ = (node_in ns e.child).subject in
      let r = any-find (monitors ns es x b e.parent) es k in
      (λ i. any (monitors ns' es (sym (same-expression g e.parent l.0) i) (sym (same-subject g e.child l.1) i) e.parent) es)
      ∙ any_here (monitors ns' es x b e.parent) r.1 (monitors-stays x b e.parent r.0 r.2)

  monitored-if-stays : (e : Edge) → Ends (length ns) e → monitored_if ns es e ≡ true → monitored_if ns' es e ≡ true
  unfolding monitored_if
  monitored-if-stays e l k =
      ⊎_elim (λ z. or_left (not (eqb e.kind 4)) (monitored ns' es e) z) (λ z. or_right (not (eqb e.kind 4)) (monitored ns' es e) (monitored-stays e l z))
      (or_cases (not (eqb e.kind 4)) (monitored ns es e) k)

  -- an edge that is justified still is
  pub justified-stays : (shown : List Credential) (e : Edge) → Ends (length ns) e → justified shown ns es e ≡ true → justified shown ns' es e ≡ true
  unfolding justified
  justified-stays shown e l k =
      let p = and_parts (implied_if shown ns e) (monitored_if ns es e) k in
      and_both (implied_if shown ns' e) (monitored_if ns' es e) (implied-stays g shown e l p.0) (monitored-if-stays e l p.1)

-- nodes grow behind each list of edges that join them
module _ {ns ns' : List Node} (grow : (b : List Edge) → Each (Ends (length ns)) b → Grown ns b ns' b) (es : List Edge) (ends : Each (Ends (length ns)) es) where
  none : Each (Ends (length ns)) []
  none e m = absurd (Memᴰ.not-nil m)

  pub all_fit : (h : Header) → in_turn (edge_fits h ns) [] es ≡ true → in_turn (edge_fits h ns') [] es ≡ true
  all_fit h = turn_more (Ends (length ns)) (edge_fits h ns) (edge_fits h ns') (λ b e u v k. fits-stays (grow b u) h b e v k) [] es none ends

  pub all-justified : (shown : List Credential) → in_turn (justified shown ns) [] es ≡ true → in_turn (justified shown ns') [] es ≡ true
  all-justified shown =
      turn_more (Ends (length ns)) (justified shown ns) (justified shown ns') (λ b e u v k. justified-stays (grow b u) shown e v k) [] es none ends
