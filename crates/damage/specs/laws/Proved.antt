-- In a negotiation that is not damaged a target is satisfied only if the credentials shown prove it in RT0, and end 1 means that they prove the
-- requester in the primary's role. Assumes nothing.
use Prim.Native.Nat.{ℕ, zero, suc, ◌<◌}
use native.Mathlib.Omega.{arith}
use Rattle.std.specs.Prelude.{◌≡◌, refl, ◌⊎◌, Bool, cond, ◌&&◌, ◌||◌, eqb, ltb, get_or}
use Rattle.std.proofs.Common.{sym, ◌∙◌, inl, inr}
use Rattle.std.proofs.Math.Path.{ap, subst}
use Rattle.std.proofs.Math.Logic.{⊎_elim}
use Rattle.std.proofs.Math.Bool.{true, false, not}
use mathlib.Core.List.Memᴰ
use mathlib.Core.List.{List, [], ◌∷◌, ◌++◌, Memᴰ}
use borrow.Author.Tests.{eq-eqb, eqb-true, eqb-false, not-true, ltb-true, ltb-false}
use Rattle.std.proofs.Math.ListN.{length}
use Rattle.expression.specs.declared.Role.{Role}
use Rattle.expression.specs.declared.Credential.{Credential}
use Rattle.expression.specs.declared.Expression.{Expression}
use Rattle.expression.specs.declared.Expression.TheVariants as E
use Rattle.expression.specs.Same.{same}
use Rattle.expression.specs.laws.Same.{same-eq, eq-same}
use Rattle.expression.specs.Kinds.{is_role_expression}
use Rattle.rt0.specs.Lists.{any}
use Rattle.rt0.specs.laws.Lists.{any-find, any_here}
use Rattle.word.specs.laws.Bools.{false-true, or_cases, and_parts, and_both}
use Rattle.rt0.specs.From.{role_of, roles_of, From, reflexive, transitive, linking, intersection as intersection-from}
use Rattle.rt0.proofs.laws.Laws.{from-exact}
use Rattle.class.specs.declared.Name.{Name}
use Rattle.propagation.specs.Flags.{at}
use Rattle.propagation.specs.laws.Flags.{decided}
use Rattle.graph.specs.declared.Node.{Node}
use Rattle.graph.specs.declared.Edge.{Edge}
use Rattle.graph.specs.Graph.{node_in, blank}
use Rattle.graph.specs.Form.{is_standard, is_target, is_monitor, is_solution, is_first, has_role, is_part, same_verifier, same_ends, is_control, form, Formed}
use Rattle.graph.specs.Find.{is_node, has_edge}
use Rattle.graph.specs.States.{implication_kind, solution_kind, Part, Satisfied, trivial, standard, intersection, Failed}
use Rattle.graph.specs.laws.States.{satisfied-failed, satisfied-inside}
use Rattle.graph.specs.Propagated.{is_child, satisfied_b, propagated_state}
use Rattle.graph.specs.laws.Propagated.{satisfied-exact, state-one}
use Rattle.justification.specs.InTurn.{in_turn}
use Rattle.justification.specs.Justified.{monitor_kind, is_solution_for, solves, solved, monitors, monitored, implied, implied_if, monitored_if, justified}
use Rattle.tables.specs.Tables.{Tables}
use Rattle.negotiation.specs.declared.Header.{Header}
use Rattle.negotiation.specs.State.{State}
use Rattle.damage.specs.Header.{empty_sound, end_sound}
use Rattle.negotiation.specs.Ends.{requester, entity_of}
use Rattle.damage.specs.Records.{node_sound, node_fits, primary_sound}
use Rattle.damage.specs.Edges.{next_brought, brought_from, brought, placed, formed, edge_fits, all_brought}
use Rattle.damage.specs.Damage.{records_sound, edges_justified, graph_sound, sound}
use Rattle.damage.specs.laws.Damage.{sound-parts, graph-parts}
use Rattle.damage.specs.laws.Going.{empty-parts}

-- Tests in turn

cond_cases : (b : Bool) {x y : Bool} → cond b x y ≡ true → ((b ≡ true) × (x ≡ true)) ⊎ ((b ≡ false) × (y ≡ true))
cond_cases true h = inl (refl, h)
cond_cases false h = inr (refl, h)

module _ {A : Type 0} (t : List A → A → Bool) where
  -- each element passes behind some others
  turn-member : (before xs : List A) → in_turn t before xs ≡ true → {x : A} → Memᴰ x xs → (b : List A) × (t b x ≡ true)
  unfolding in_turn
  turn-member before [] h m = absurd (Memᴰ.not-nil m)
  turn-member before (y ∷ ys) h {x} m =
      let p = and_parts (t before y) (in_turn t (before ++ (y ∷ [])) ys) h in
      ⊎_elim (λ e. (before, ap (t before) e ∙ p.0)) (λ k. turn-member (before ++ (y ∷ [])) ys p.1 k) (Memᴰ.cases_cons m)

  -- where an element that passes is apart from all before it, elements of different numbers are apart
  module _ (d : A) (apart : A → A → Type 0) (parted : (b : List A) (x y : A) → t b x ≡ true → Memᴰ y b → apart x y) where
    earlier-apart : (before xs : List A) → in_turn t before xs ≡ true → {y : A} → Memᴰ y before → (j : ℕ) → j < length xs → apart (get_or xs j d) y
    unfolding in_turn
    earlier-apart before [] h m j l = absurd (omega arith)
    earlier-apart before (x ∷ xs) h {y} m zero l = parted before x y (and_parts (t before x) (in_turn t (before ++ (x ∷ [])) xs) h).0 m
    earlier-apart before (x ∷ xs) h m (suc j) l =
        earlier-apart (before ++ (x ∷ [])) xs (and_parts (t before x) (in_turn t (before ++ (x ∷ [])) xs) h).1 (Memᴰ.append_left (x ∷ []) m) j (omega arith)

    turn-apart : (before xs : List A) → in_turn t before xs ≡ true → (i j : ℕ) → i < j → j < length xs → apart (get_or xs j d) (get_or xs i d)
    unfolding in_turn
    turn-apart before [] h i j k l = absurd (omega arith)
    turn-apart before (x ∷ xs) h i zero k l = absurd (omega arith)
    turn-apart before (x ∷ xs) h zero (suc j) k l =
        earlier-apart (before ++ (x ∷ [])) xs (and_parts (t before x) (in_turn t (before ++ (x ∷ [])) xs) h).1
        (Memᴰ.append_right before (Memᴰ.head refl)) j (omega arith)
    turn-apart before (x ∷ xs) h (suc i) (suc j) k l =
        turn-apart (before ++ (x ∷ [])) xs (and_parts (t before x) (in_turn t (before ++ (x ∷ [])) xs) h).1 i j (omega arith) (omega arith)

-- What the forms give

module _ (p c : Node) where
  ends-subject : (b : Bool) → (b && same_ends p c) ≡ true → c.subject ≡ p.subject
  ends-subject b h = eqb-true c.subject p.subject (and_parts (same_verifier p c) (eqb c.subject p.subject) (and_parts b (same_ends p c) h).1).1

  -- but for kinds 4 and 6 a child has its parent's subject
  form-subject : (k v : ℕ) → form k v p c ≡ true → (k ≡ 4 → ⊥) → (k ≡ 6 → ⊥) → c.subject ≡ p.subject
  unfolding form
  form-subject k v h four six =
      ⊎_elim (λ a. ends-subject (is_standard p.expression && is_target c.expression c.subject) a.1)
      (λ a. ⊎_elim (λ b. ends-subject (is_monitor p.expression c.expression) b.1)
      (λ b. ⊎_elim (λ d. ends-subject (is_solution p.expression c.expression) d.1)
      (λ d. ⊎_elim (λ e. absurd (four (eqb-true k 4 e.0)))
      (λ e. ⊎_elim (λ f. ends-subject (is_part p.expression c.expression) f.1)
      (λ f. absurd (six (eqb-true k 6 (and_parts (eqb k 6) (is_control v p c) f.1).0)))
      (cond_cases (eqb k 5) e.1)) (cond_cases (eqb k 4) d.1)) (cond_cases (eqb k 3) b.1)) (cond_cases (eqb k 2) a.1)) (cond_cases (eqb k 1) h)

  -- of A.r1.r2 the child by kind 4 is A.r1
  form-first : (k v : ℕ) → k ≡ 4 → form k v p c ≡ true → is_first p.expression c.expression ≡ true
  unfolding form
  form-first k v z h = (and_parts (is_first p.expression c.expression) (same_verifier p c) (sym (ap (λ (n : ℕ). form n v p c) z) ∙ h)).0

-- a child that is an entity comes by kind 1, so it is its own subject
module _ (a : ℕ) where
  not-monitor : (x : Expression) → is_monitor x (E.Entity a) ≡ true → ⊥
  unfolding same
  not-monitor (E.Entity b) h = false-true h
  not-monitor (E.Role b) h = false-true h
  not-monitor (E.Linked b r) h = false-true h
  not-monitor (E.Intersection q) h = false-true h
  not-monitor (E.Goal r) h = false-true h

  not-solution : (x : Expression) → is_solution x (E.Entity a) ≡ true → ⊥
  not-solution (E.Entity b) h = false-true h
  not-solution (E.Role b) h = false-true h
  not-solution (E.Linked b r) h = false-true h
  not-solution (E.Intersection q) h = false-true h
  not-solution (E.Goal r) h = false-true h

  not_first : (x : Expression) → is_first x (E.Entity a) ≡ true → ⊥
  unfolding same
  not_first (E.Entity b) h = false-true h
  not_first (E.Role b) h = false-true h
  not_first (E.Linked b r) h = false-true h
  not_first (E.Intersection q) h = false-true h
  not_first (E.Goal r) h = false-true h

  not-part : (x : Expression) → is_part x (E.Entity a) ≡ true → ⊥
  unfolding has_role same
  not-part (E.Entity b) h = false-true h
  not-part (E.Role b) h = false-true h
  not-part (E.Linked b r) h = false-true h
  not-part (E.Intersection q) h = let r = any-find (λ (b : Role). same (E.Entity a) (E.Role b)) (roles_of q) h in false-true r.2
  not-part (E.Goal r) h = false-true h

  form-entity : (k v : ℕ) (p c : Node) → c.expression ≡ E.Entity a → form k v p c ≡ true → a ≡ c.subject
  unfolding form
  form-entity k v p c z h =
      ⊎_elim (λ b. eqb-true a c.subject (sym (ap (λ (x : Expression). is_target x c.subject) z)
      ∙ (and_parts (is_standard p.expression) _
      (and_parts (is_standard p.expression && is_target c.expression c.subject) (same_ends p c) b.1).0).1))
      (λ b. ⊎_elim (λ d. absurd (not-monitor p.expression (sym (ap (is_monitor p.expression) z) ∙ (and_parts _ (same_ends p c) d.1).0)))
      (λ d. ⊎_elim (λ e. absurd (not-solution p.expression (sym (ap (is_solution p.expression) z) ∙ (and_parts _ (same_ends p c) e.1).0)))
      (λ e. ⊎_elim (λ f. absurd (not_first p.expression (sym (ap (is_first p.expression) z) ∙ (and_parts _ (same_verifier p c) f.1).0)))
      (λ f. ⊎_elim (λ g. absurd (not-part p.expression (sym (ap (is_part p.expression) z) ∙ (and_parts _ (same_ends p c) g.1).0)))
      (λ g. absurd (not-control (and_parts (eqb k 6) (is_control v p c) g.1).1))
      (cond_cases (eqb k 5) f.1)) (cond_cases (eqb k 4) e.1)) (cond_cases (eqb k 3) d.1)) (cond_cases (eqb k 2) b.1)) (cond_cases (eqb k 1) h)
    where
      not-control : is_control v p c ≡ true → ⊥
      not-control g =
          let q = and_parts (is_standard p.expression && is_standard c.expression && not (same_verifier p c)) (eqb c.subject v) g in
          let r = and_parts (is_standard p.expression && is_standard c.expression) (not (same_verifier p c)) q.0 in
          false-true (sym (ap is_standard z) ∙ (and_parts (is_standard p.expression) (is_standard c.expression) r.0).1)

-- One edge

-- what the credentials are to prove of a node
abbrev pub Proved : List Credential → Node → Type 0
Proved C n = From C n.expression (E.Entity n.subject)

-- "parent from child", and child from their subject
by_chain : {C : List Credential} (p c : Node) → From C p.expression c.expression → c.subject ≡ p.subject → Proved C c → Proved C p
by_chain {C} p c h s g = transitive h (subst (λ (n : ℕ). From C c.expression (E.Entity n)) s g)

-- A.r1 from B and B.r2 from S give A.r1.r2 from S
by-link : {C : List Credential} {a : Role} {r b s : ℕ} → From C (E.Role a) (E.Entity b) → From C (E.Role (role_of b r)) (E.Entity s)
    → From C (E.Linked a r) (E.Entity s)
by-link h k = transitive (linking h) k

-- the same by the tests: x is the parent's expression, y that of the child, whose subject is b, and z that of the solution
link-proved : {C : List Credential} {s : ℕ} (x y z : Expression) (b : ℕ) → is_first x y ≡ true → is_solution_for x b z ≡ true → From C y (E.Entity b)
    → From C z (E.Entity s) → From C x (E.Entity s)
link-proved (E.Entity a) y z b f g h k = absurd (false-true f)
link-proved (E.Role a) y z b f g h k = absurd (false-true f)
link-proved {C} {s} (E.Linked a r) y z b f g h k =
    by-link (subst (λ (x : Expression). From C x (E.Entity b)) (same-eq y (E.Role a) f) h)
    (subst (λ (x : Expression). From C x (E.Entity s)) (same-eq z (E.Role (role_of b r)) g) k)
link-proved (E.Intersection p) y z b f g h k = absurd (false-true f)
link-proved (E.Goal r) y z b f g h k = absurd (false-true f)

module _ (C : List Credential) (ns : List Node) where
  -- the edge has its form, and by kind 1 or 4 what proves the child proves the parent
  record Leads (e : Edge) : Type 0 where
    formed : (v : ℕ) × (form e.kind v (node_in ns e.parent) (node_in ns e.child) ≡ true)
    upward : implication_kind e.kind ≡ true → Proved C (node_in ns e.child) → Proved C (node_in ns e.parent)

  -- the child by such an edge, and its parent, have one subject
  leads-subject : {e : Edge} → Leads e → (e.kind ≡ 4 → ⊥) → (e.kind ≡ 6 → ⊥) → (node_in ns e.child).subject ≡ (node_in ns e.parent).subject
  leads-subject {e} g four six = form-subject (node_in ns e.parent) (node_in ns e.child) e.kind g.formed.0 g.formed.1 four six

  -- a trivial target is its own subject
  record Trivial : Type 0 where
    own : (i a : ℕ) → (node_in ns i).expression ≡ E.Entity a → a ≡ (node_in ns i).subject

  -- where all edges lead, what they satisfy is proved
  module _ (es : List Edge) (self : Trivial) (lead : (e : Edge) → Memᴰ e es → Leads e) where
    part-proved : {i c : ℕ} {a : Role} → Part ns es i a c → Proved C (node_in ns c) → From C (E.Role a) (E.Entity (node_in ns i).subject)
    part-proved {i} {c} {a} w g =
        let z : w.child.kind ≡ 5 = eqb-true w.child.kind 5 w.child.passes in
        let s : (node_in ns c).subject ≡ (node_in ns i).subject = leads-subject
        (lead (record { kind = w.child.kind; parent = i; child = c }) w.child.edge) (λ y. omega arith) (λ y. omega arith) in
        subst (λ (n : ℕ). From C (E.Role a) (E.Entity n)) s (subst (λ (x : Expression). From C x (E.Entity (node_in ns c).subject)) w.role g)

    leads-proved : {i : ℕ} → Satisfied ns es i → Proved C (node_in ns i)
    leads-proved (trivial {i} {a} e) =
        subst (λ (x : Expression). From C x (E.Entity (node_in ns i).subject)) (sym (e ∙ ap E.Entity (self.own i a e))) reflexive
    leads-proved (standard {i} {c} s k g) = (lead (record { kind = k.kind; parent = i; child = c }) k.edge).upward k.passes (leads-proved g)
    leads-proved (intersection {i} {p} e full f w g) =
        subst (λ (x : Expression). From C x (E.Entity (node_in ns i).subject)) (sym e)
        (intersection-from {p = p} (λ a m. part-proved (w a m) (leads-proved (g a m))))

  -- By kind 1 "parent from child holds over the credentials shown". By kind 4 a linking-monitor child of the parent "has a link-solution child
  -- ⟨V : B.r2 ← S⟩ that is satisfied" by earlier edges.
  module _ (before : List Edge) (self : Trivial) (lead : (e : Edge) → Memᴰ e before → Leads e) where
    kind-subject : (n : ℕ) (d : Edge) → (n ≡ 4 → ⊥) → (n ≡ 6 → ⊥) → Memᴰ d before → (i : ℕ) → is_child ns before (λ k. eqb k n) i d ≡ true
        → (node_in ns d.child).subject ≡ (node_in ns i).subject
    kind-subject n d four six m i h =
        let p = and_parts (eqb d.kind n && eqb d.parent i) (ltb d.child (length ns)) h in
        let q = and_parts (eqb d.kind n) (eqb d.parent i) p.0 in
        let k : d.kind ≡ n = eqb-true d.kind n q.0 in
        leads-subject (lead d m) (λ z. four (sym k ∙ z)) (λ z. six (sym k ∙ z)) ∙ ap (λ (j : ℕ). (node_in ns j).subject) (eqb-true d.parent i q.1)

    solution-proved : (x : Expression) (b g : ℕ) → solved ns before x b g ≡ true
        → (z : Expression) × (is_solution_for x b z ≡ true) × From C z (E.Entity (node_in ns g).subject)
    unfolding solved solves
    solution-proved x b g h =
        let r = any-find (solves ns before x b g) before h in
        let d : Edge = r.0 in
        let z : Expression = (node_in ns d.child).expression in
        let p = and_parts (is_child ns before solution_kind g d && is_solution_for x b z) (at (satisfied_b ns before) d.child) r.2 in
        let q = and_parts (is_child ns before solution_kind g d) (is_solution_for x b z) p.0 in
        let s = kind-subject 3 d (λ w. omega arith) (λ w. omega arith) r.1 g q.0 in
        (z, q.1, subst (λ (n : ℕ). From C z (E.Entity n)) s (leads-proved before self lead ((satisfied-exact ns before d.child).0 p.1)))

    monitored-proved : (e : Edge) → monitored ns before e ≡ true
        → (z : Expression) × (is_solution_for (node_in ns e.parent).expression (node_in ns e.child).subject z ≡ true)
        × From C z (E.Entity (node_in ns e.parent).subject)
    unfolding monitored monitors
    monitored-proved e h =
        let x : Expression = (node_in ns e.parent).expression in
        let b : ℕ = (node_in ns e.child).subject in
        let r = any-find (monitors ns before x b e.parent) before h in
        let d : Edge = r.0 in
        let p = and_parts (is_child ns before monitor_kind e.parent d) (solved ns before x b d.child) r.2 in
        let w = solution-proved x b d.child p.1 in
        let s = kind-subject 2 d (λ w. omega arith) (λ w. omega arith) r.1 e.parent p.0 in
        (w.0, w.1, subst (λ (n : ℕ). From C w.0 (E.Entity n)) s w.2)

    justified-leads : (e : Edge) → (v : ℕ) → form e.kind v (node_in ns e.parent) (node_in ns e.child) ≡ true → justified C ns before e ≡ true → Leads e
    unfolding justified implied_if monitored_if implied
    justified-leads e v f h =
        let p : Node = node_in ns e.parent in
        let c : Node = node_in ns e.child in
        let j = and_parts (not (eqb e.kind 1) || implied C ns e) (not (eqb e.kind 4) || monitored ns before e) h in
        record {
          formed = (v, f);
          upward = λ k g. ⊎_elim
              (λ one. by_chain p c ((from-exact C p.expression c.expression).0 (if-so (eqb e.kind 1) one j.0))
              (let z : e.kind ≡ 1 = eqb-true e.kind 1 one in form-subject p c e.kind v f (λ w. omega arith) (λ w. omega arith)) g)
              (λ four. let w = monitored-proved e (if-so (eqb e.kind 4) four j.1) in link-proved p.expression c.expression w.0
              c.subject (form-first p c e.kind v (eqb-true e.kind 4 four) f) w.1 g w.2)
              (or_cases (eqb e.kind 1) (eqb e.kind 4) k);
        }
      where
        if-so : (a : Bool) {b : Bool} → a ≡ true → (not a || b) ≡ true → b ≡ true
        if-so true y q = q
        if-so false y q = absurd (false-true y)

  -- so every edge leads, one after the other
  turn-leads : Trivial → (before es : List Edge) → ((e : Edge) → Memᴰ e before → Leads e)
      → ((e : Edge) → Memᴰ e es → (v : ℕ) × (form e.kind v (node_in ns e.parent) (node_in ns e.child) ≡ true))
      → in_turn (justified C ns) before es ≡ true → (e : Edge) → Memᴰ e es → Leads e
  unfolding in_turn
  turn-leads self before [] lead forms h e m = absurd (Memᴰ.not-nil m)
  turn-leads self before (d ∷ es) lead forms h e m =
      let p = and_parts (justified C ns before d) (in_turn (justified C ns) (before ++ (d ∷ [])) es) h in
      let f = forms d (Memᴰ.head refl) in
      let first : Leads d = justified-leads before self lead d f.0 f.1 p.0 in
      ⊎_elim (λ q. subst Leads (sym q) first)
      (λ k. turn-leads self (before ++ (d ∷ [])) es
      (λ x n. ⊎_elim (lead x) (λ o. ⊎_elim (λ q. subst Leads (sym q) first) (λ y. absurd (Memᴰ.not-nil y)) (Memᴰ.cases_cons o))
      (Memᴰ.append_cases before n)) (λ x n. forms x (Memᴰ.tail n)) p.1 e k)
      (Memᴰ.cases_cons m)

-- The graph of a sound negotiation

-- the primary is a role
primary-role : (h : Header) (n : Node) → primary_sound h n ≡ true → is_role_expression n.expression ≡ true
unfolding primary_sound
primary-role h n k =
    ⊎_elim (λ a. ap is_role_expression (same-eq n.expression (E.Role h.wanted) a.1)) (λ a. a.1)
    (cond_cases (eqb h.side 0) (and_parts (eqb n.verifier 0 && eqb n.subject (requester h)) _ k).1)

-- and its subject the requester
primary-subject : (h : Header) (n : Node) → primary_sound h n ≡ true → n.subject ≡ requester h
unfolding primary_sound
primary-subject h n k =
    eqb-true n.subject (requester h) (and_parts (eqb n.verifier 0) (eqb n.subject (requester h))
    (and_parts (eqb n.verifier 0 && eqb n.subject (requester h)) _ k).0).1

-- each node stood before, or an edge brought it
brought-by : (b : ℕ) (es : List Edge) (i : ℕ) → i < brought_from b es → (i < b) ⊎ ((e : Edge) × Memᴰ e es × (e.child ≡ i))
unfolding brought_from
brought-by b [] i l = inl l
brought-by b (e ∷ es) i l = ⊎_elim (λ k. next (eqb e.child b) refl k) (λ r. inr (r.0, Memᴰ.tail r.1, r.2)) (brought-by (next_brought b e) es i l)
  where
    next : (t : Bool) → eqb e.child b ≡ t → i < cond t (suc b) b → (i < b) ⊎ ((d : Edge) × Memᴰ d (e ∷ es) × (d.child ≡ i))
    next true q k =
        ⊎_elim (λ y. inr (e, Memᴰ.head refl, eqb-true e.child b q ∙ sym (eqb-true i b y))) (λ y. inl (omega (arith, eqb-false i b y)))
        (decided (eqb i b))
    next false q k = inl k

-- end 1 is where the primary's state is 1
end-one : (p end idle : ℕ) → end ≡ 1 → end_sound p end idle ≡ true → p ≡ 1
unfolding end_sound
end-one p end idle z k =
    ⊎_elim (λ a. eqb-true p 1 a.0) (λ a. absurd (⊎_elim (λ b. false-true b.1) (λ b. false-true b.1) (cond_cases (eqb p 2) a.1)))
    (cond_cases (eqb p 1) (sym (ap (λ (n : ℕ). end_sound p n idle) z) ∙ k))

module _ (names : List Name) (S : State) (h : graph_sound names S ≡ true) where
  parts : (records_sound names S ≡ true) × (all_brought S.header S.nodes S.edges ≡ true) × (edges_justified S ≡ true)
      × (end_sound (propagated_state S.nodes S.edges 0) S.header.end S.header.idle ≡ true)
  parts = let p = graph-parts names S h in (p.1, p.2, p.3, p.4)

  records : (in_turn (node_fits names) [] S.nodes ≡ true) × (primary_sound S.header (node_in S.nodes 0) ≡ true)
  unfolding records_sound
  records =
      let a = and_parts (in_turn (node_fits names) [] S.nodes && primary_sound S.header (node_in S.nodes 0)) _ parts.0 in
      and_parts (in_turn (node_fits names) [] S.nodes) (primary_sound S.header (node_in S.nodes 0)) a.0

  -- every edge has its form
  has-form : (e : Edge) → Memᴰ e S.edges → (v : ℕ) × (form e.kind v (node_in S.nodes e.parent) (node_in S.nodes e.child) ≡ true)
  unfolding all_brought edge_fits formed
  has-form e m =
      let ns : List Node = S.nodes in
      let r = turn-member (edge_fits S.header ns) [] S.edges (and_parts (in_turn (edge_fits S.header ns) [] S.edges) _ parts.1).0 m in
      let f = and_parts (placed (length ns) (brought r.0) e && formed S.header ns e) (not (has_edge r.0 e)) r.1 in
      (entity_of S.header (node_in ns e.parent).verifier, (and_parts (placed (length ns) (brought r.0) e) (formed S.header ns e) f.0).1)

  -- "Nodes are unique"
  record Apart (x y : Node) : Type 0 where
    apart : is_node x.expression x.verifier x.subject y ≡ true → ⊥

  nodes-apart : (i j : ℕ) → i < j → j < length S.nodes → Apart (node_in S.nodes j) (node_in S.nodes i)
  unfolding node_fits
  nodes-apart =
      turn-apart (node_fits names) blank Apart
      (λ b x y t m. record {
        apart = λ k. false-true
            (sym (not-true (any (is_node x.expression x.verifier x.subject) b) (and_parts (node_sound names x) _ t).1)
            ∙ any_here (is_node x.expression x.verifier x.subject) m k);
      })
      [] S.nodes records.0

  graph-formed : Formed S.nodes S.edges
  graph-formed =
      record {
        formed = has-form;
        unique = λ i j l m x v s. ⊎_elim (λ e. eqb-true i j e)
            (λ e. ⊎_elim (λ k. absurd (twice i j (ltb-true i j k) m x v s))
            (λ k. absurd (twice j i (omega (arith, eqb-false i j e, ltb-false i j k)) l (sym x) (sym v) (sym s))) (decided (ltb i j)))
            (decided (eqb i j));
      }
    where
      twice : (i j : ℕ) → i < j → j < length S.nodes → (node_in S.nodes i).expression ≡ (node_in S.nodes j).expression
          → (node_in S.nodes i).verifier ≡ (node_in S.nodes j).verifier → (node_in S.nodes i).subject ≡ (node_in S.nodes j).subject → ⊥
      twice i j l m x v s =
          let a : Node = node_in S.nodes i in
          let b : Node = node_in S.nodes j in
          (nodes-apart i j l m).apart (and_both (eqb a.verifier b.verifier && eqb a.subject b.subject)
          (same a.expression b.expression)
          (and_both (eqb a.verifier b.verifier) (eqb a.subject b.subject) (eq-eqb _ _ v) (eq-eqb _ _ s)) (eq-same _ _ x))

  -- an entity is its own subject: it is not the primary, so an edge brought it
  graph-trivial : Trivial S.shown S.nodes
  unfolding all_brought brought
  graph-trivial =
      record {
        own = λ i a e.
            let l : i < length S.nodes = satisfied-inside {ns = S.nodes} {es = []} (trivial e) in
            let n : brought_from 1 S.edges ≡ length S.nodes = eqb-true (brought S.edges) (length S.nodes)
            (and_parts (in_turn (edge_fits S.header S.nodes) [] S.edges) _ parts.1).1 in
            ⊎_elim (λ k. let z : i ≡ 0 = omega arith in absurd
            (false-true (sym (ap is_role_expression (sym (ap (λ (j : ℕ). (node_in S.nodes j).expression) z) ∙ e))
            ∙ primary-role S.header (node_in S.nodes 0) records.1)))
            (λ r. let f = has-form r.0 r.1 in form-entity a r.0.kind f.0 (node_in S.nodes r.0.parent) (node_in S.nodes i) e
            (ap (λ (j : ℕ). form r.0.kind f.0 (node_in S.nodes r.0.parent) (node_in S.nodes j)) (sym r.2) ∙ f.1))
            (brought-by 1 S.edges i (omega arith));
      }

  graph-proved : (i : ℕ) → Satisfied S.nodes S.edges i → Proved S.shown (node_in S.nodes i)
  unfolding edges_justified
  graph-proved i s =
      leads-proved S.shown S.nodes S.edges graph-trivial
      (turn-leads S.shown S.nodes graph-trivial [] S.edges (λ e m. absurd (Memᴰ.not-nil m)) has-form parts.2) s

  end-satisfied : S.header.end ≡ 1 → Satisfied S.nodes S.edges 0
  end-satisfied e =
      ⊎_elim (λ s. s) (λ c. absurd (false-true (sym (ap is_role_expression c.goal) ∙ primary-role S.header (node_in S.nodes 0) records.1)))
      ((state-one S.nodes S.edges 0).0 (end-one (propagated_state S.nodes S.edges 0) S.header.end S.header.idle e parts.3))

-- The negotiation

no_edge : (es : List Edge) → length es ≡ 0 → {e : Edge} → Memᴰ e es → ⊥
no_edge [] z m = Memᴰ.not-nil m
no_edge (d ∷ es) z m = omega arith

module _ (T : Tables) (S : State) (h : sound T S ≡ true) where
  by_count : {b : Bool} → eqb (length S.nodes) 0 ≡ b
      → cond b (empty_sound S.header (length S.edges) (length S.shown)) (graph_sound T.names S) ≡ true
  by_count z =
      sym (ap (λ (b : Bool). cond b (empty_sound S.header (length S.edges) (length S.shown)) (graph_sound T.names S)) z)
      ∙ (sound-parts T S h).2

  -- without a node it has neither edge nor end
  without-node : eqb (length S.nodes) 0 ≡ true → (length S.edges ≡ 0) × (S.header.end ≡ 0)
  without-node z = let e = empty-parts S.header (length S.edges) (length S.shown) (by_count z) in (e.2, e.1)

  -- edges have their forms, and nodes are unique
  pub sound-graph-formed : Formed S.nodes S.edges
  sound-graph-formed =
      ⊎_elim (λ z. record {
        formed = λ e m. absurd (no_edge S.edges (without-node z).0 m);
        unique = λ i j l m x v s. absurd
            (omega (arith, eqb-true (length S.nodes) 0 z));
      }) (λ z. graph-formed T.names S (by_count z))
      (decided (eqb (length S.nodes) 0))

  -- no node is both satisfied and failed
  pub states-exclusive : {i : ℕ} → Satisfied S.nodes S.edges i → Failed S.nodes S.edges i → ⊥
  states-exclusive = satisfied-failed sound-graph-formed

  -- a target is satisfied only if the credentials shown prove it
  pub satisfied-proved : (i : ℕ) → Satisfied S.nodes S.edges i
      → From S.shown (node_in S.nodes i).expression (E.Entity (node_in S.nodes i).subject)
  satisfied-proved i s =
      ⊎_elim (λ z. absurd (omega (arith, satisfied-inside s, eqb-true (length S.nodes) 0 z))) (λ z. graph-proved T.names S (by_count z) i s)
      (decided (eqb (length S.nodes) 0))

  -- end 1, "success", means that they prove the requester in the primary's role
  pub primary-proved : S.header.end ≡ 1 → From S.shown (node_in S.nodes 0).expression (E.Entity (requester S.header))
  primary-proved e =
      ⊎_elim (λ z. absurd (omega (arith, (without-node z).1)))
      (λ z.
      let g = by_count z in
      subst (λ (n : ℕ). From S.shown (node_in S.nodes 0).expression (E.Entity n))
      (primary-subject S.header (node_in S.nodes 0) (records T.names S g).1) (satisfied-proved 0 (end-satisfied T.names S g e)))
      (decided (eqb (length S.nodes) 0))
