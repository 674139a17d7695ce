-- The nodes that the columns satisfy are the satisfied nodes. Assumes nothing.
use Rattle.std.specs.Prelude.{ℕ, ◌+◌, ◌*◌, ◌≤◌, ◌<◌, ◌≡◌, refl, Bool, true, false, cond, eqb, get_or, length, take}
use Rattle.std.proofs.Common.{arith, sym, ◌∙◌, subst, eqb-true, eq-eqb}
use Rattle.std.proofs.Math.Path.{ap}
use mathlib.Core.List.{List, Memᴰ}
use Rattle.expression.specs.declared.Role.{Role}
use Rattle.expression.specs.declared.Parts.{Parts}
use Rattle.expression.specs.declared.Expression.{Expression}
use Rattle.expression.specs.declared.Expression.TheVariants as E
use Rattle.expression.specs.Form.{well_formed}
use Rattle.word.specs.laws.Bools.{false-true, bool_iff}
use Rattle.rt0.specs.From.{roles_of}
use Rattle.graph.specs.declared.Node.{Node}
use Rattle.graph.specs.declared.Edge.{Edge}
use Rattle.graph.specs.Graph.{node_in}
use Rattle.graph.specs.Form.{is_standard}
use Rattle.graph.specs.States.{FullyProcessed, Part, Satisfied, trivial, standard, intersection}
use Rattle.graph.specs.laws.States.{processed-inside, satisfied-inside}
use Rattle.graph.specs.Propagated.{satisfied_b}
use Rattle.graph.specs.laws.Propagated.{satisfied-exact}
use Rattle.propagation.specs.Flags.{at}
use Rattle.propagation.specs.laws.Least.{least-closed, least-into}
use Rattle.propagation.specs.laws.Satisfied.{Graph, graph, node_at, filled_by, satisfied_rule, satisfied_of}
use Rattle.propagation.specs.laws.SatisfiedLaws.{filled-find, filled-here, satisfied-parts, satisfied-of, satisfied-mono}
use Rattle.states.specs.laws.Brings.{need_as, need_of, slot_in, NodesFormed, Joined, Needs}
use Rattle.states.specs.laws.Places.{no_role, mem_index, index-mem, RolesFormed, roles-formed, slot-role, role-slot}
use Rattle.states.specs.laws.Brought.{Brought, brought-at, brought-here, implied, implies, joined, joins}

module _ {ns : List Node} {es : List Edge} {F S N : List ℕ} (nf : NodesFormed ns) (jn : Joined ns es F S) (nd : Needs ns N) (m : ℕ) (l : m ≤ length es) where
  abbrev G : Graph
  G = graph F S N

  -- what a node of expression x needs
  need-at : (i : ℕ) → i < 128 → {x : Expression} → (node_in ns i).expression ≡ x → node_at G i ≡ need_as (node_in ns i).state x
  unfolding need_of
  need-at i b e = nd.need i b ∙ ap (need_as (node_in ns i).state) e

  roles : (i : ℕ) {p : Parts} → (node_in ns i).expression ≡ E.Intersection p → FullyProcessed ns i → RolesFormed p
  roles i {p} e full = roles-formed p (sym (ap well_formed e) ∙ nf.formed i (processed-inside ns i full))

  -- What the rule brings is satisfied

  module _ (s : ℕ → Bool) (ih : (i : ℕ) → s i ≡ true → Satisfied ns (take m es) i) where
    -- the child that fills a slot
    filler : (i k : ℕ) → k < 4 → filled_by m G s (i * 4 + k) ≡ true → (c : ℕ) × Brought ns (take m es) i k c × Satisfied ns (take m es) c
    filler i k q h =
        let r = filled-find m G s (i * 4 + k) h in
        let e : get_or S r.0 0 ≡ i * 4 + k = r.2 in
        let t : Satisfied ns (take m es) (get_or F r.0 0) = ih (get_or F r.0 0) r.3 in
        let w = brought-at jn m l r.0 i r.1 (omega (arith, satisfied-inside t, nf.few)) (omega arith) in
        let z : w.0 ≡ k = omega (arith, w.2) in
        (get_or F r.0 0, subst (λ (n : ℕ). Brought ns (take m es) i n (get_or F r.0 0)) z w.3, t)

    step : (i : ℕ) → i < 128 → satisfied_rule m G s i ≡ true → Satisfied ns (take m es) i
    step i b h = go (node_in ns i).expression refl
      where
        rule : (node_at G i < 5) × ((k : ℕ) → k < node_at G i → filled_by m G s (i * 4 + k) ≡ true)
        rule = satisfied-parts m G s i h

        one : {x : Expression} → (node_in ns i).expression ≡ x → is_standard x ≡ true → need_as (node_in ns i).state x ≡ 1 → Satisfied ns (take m es) i
        one {x} e t n =
            let z : node_at G i ≡ 1 = need-at i b e ∙ n in
            let r = filler i 0 (omega arith) (rule.1 0 (omega arith)) in
            let y : is_standard (node_in ns i).expression ≡ true = ap is_standard e ∙ t in
            standard y (implied y (omega arith) r.1) r.2

        full : (p : Parts) → (node_in ns i).expression ≡ E.Intersection p → (t : Bool) → eqb (node_in ns i).state 3 ≡ t
            → node_at G i ≡ cond t p.count 5 → Satisfied ns (take m es) i
        full p e true q z =
            let f : FullyProcessed ns i = eqb-true (node_in ns i).state 3 q in
            let o : RolesFormed p = roles i e f in
            let part : (a : Role) → Memᴰ a (roles_of p) → (c : ℕ) × Part ns (take m es) i a c × Satisfied ns (take m es) c =
            λ a u.
            let v = mem_index no_role u in
            let w : v.0 < p.count = omega (arith, v.1, o.size) in
            let r = filler i v.0 (omega (arith, o.size, o.few)) (rule.1 v.0 (omega arith)) in
            let k = joined e (omega (arith, o.size, o.few)) r.1 in
            (r.0, record { child = k.0; role = slot-role p o v.0 (node_in ns r.0).expression w k.1 ∙ ap (λ (y : Role). E.Role y) v.2 }, r.2) in
            intersection e f (λ a u. (part a u).0) (λ a u. (part a u).1) (λ a u. (part a u).2)
        full p e false q z = absurd (omega (arith, rule.0))

        go : (x : Expression) → (node_in ns i).expression ≡ x → Satisfied ns (take m es) i
        go (E.Entity a) e = trivial e
        go (E.Role a) e = one e refl refl
        go (E.Linked a r) e = one e refl refl
        go (E.Intersection p) e = full p e (eqb (node_in ns i).state 3) refl (need-at i b e)
        go (E.Goal r) e = absurd (omega (arith, rule.0, need-at i b e))

  -- What is satisfied the rule brings

  closed : (i : ℕ) → i < 128 → (n : ℕ) → node_at G i ≡ n → n < 5 → ((k : ℕ) → k < n → filled_by m G (at (satisfied_of m G)) (i * 4 + k) ≡ true)
      → at (satisfied_of m G) i ≡ true
  unfolding satisfied_of
  closed i b n e f h =
      least-closed (satisfied_rule m G) 128 (satisfied-mono m G) i b (satisfied-of m G (at (satisfied_of m G)) i (omega arith) (λ k q. h k (omega arith)))

  fills : {i k c : ℕ} → i < length ns → k < 4 → Brought ns (take m es) i k c → at (satisfied_of m G) c ≡ true
      → filled_by m G (at (satisfied_of m G)) (i * 4 + k) ≡ true
  fills {i} {k} {c} b q w h =
      let r = brought-here jn m l b q w in filled-here m G (at (satisfied_of m G)) (i * 4 + k) r.0 r.1 r.3 (ap (at (satisfied_of m G)) r.2 ∙ h)

  need-one : (s : ℕ) (x : Expression) → is_standard x ≡ true → need_as s x ≡ 1
  need-one s (E.Entity a) h = absurd (false-true h)
  need-one s (E.Role a) h = refl
  need-one s (E.Linked a r) h = refl
  need-one s (E.Intersection p) h = absurd (false-true h)
  need-one s (E.Goal r) h = absurd (false-true h)

  found : {i : ℕ} → Satisfied ns (take m es) i → at (satisfied_of m G) i ≡ true
  found (trivial {i} e) =
      let b : i < length ns = satisfied-inside {ns = ns} {es = take m es} (trivial e) in closed i (omega (arith, nf.few)) 0
      (need-at i (omega (arith, nf.few)) e) (omega arith) (λ k q. absurd (omega arith))
  found (standard {i} e k g) =
      let b : i < length ns = satisfied-inside (standard e k g) in
      let h : at (satisfied_of m G) _ ≡ true = found g in
      closed i (omega (arith, nf.few)) 1 (need-at i (omega (arith, nf.few)) refl ∙ need-one (node_in ns i).state (node_in ns i).expression e) (omega arith)
      (λ n q. let z : 0 ≡ n = omega arith in subst (λ (a : ℕ). filled_by m G (at (satisfied_of m G)) (i * 4 + a) ≡ true) z
      (fills b (omega arith) (implies e k) h))
  found (intersection {i} {p} e full f w g) =
      let b : i < length ns = satisfied-inside (intersection e full f w g) in
      let o : RolesFormed p = roles i e full in
      closed i (omega (arith, nf.few)) p.count
      (need-at i (omega (arith, nf.few)) e ∙ ap (λ (t : Bool). cond t p.count 5) (eq-eqb (node_in ns i).state 3 full)) (omega (arith, o.size, o.few))
      (λ n q.
      let a : Role = get_or (roles_of p) n no_role in
      let u : Memᴰ a (roles_of p) = index-mem no_role (roles_of p) n (omega (arith, o.size)) in
      let z : slot_in p (node_in ns (f a u)).expression ≡ n = ap (slot_in p) (w a u).role ∙ role-slot p o n q in
      fills b (omega (arith, o.size, o.few)) (subst (λ (k : ℕ). Brought ns (take m es) i k (f a u)) z (joins e (w a u).child)) (found (g a u)))

  -- the columns' satisfied nodes over the first m edges
  pub satisfied-columns : (i : ℕ) → at (satisfied_of m (graph F S N)) i ≡ at (satisfied_b ns (take m es)) i
  unfolding satisfied_of
  satisfied-columns i =
      bool_iff (at (satisfied_of m G) i) (at (satisfied_b ns (take m es)) i)
      (λ h. (satisfied-exact ns (take m es) i).1 (least-into (satisfied_rule m G) 128 (satisfied-mono m G) (Satisfied ns (take m es)) step i h))
      (λ h. found ((satisfied-exact ns (take m es) i).0 h))
