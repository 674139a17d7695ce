-- A linked target at which there is nothing to do: what it looks at elsewhere in the graph (sections 5.3 and 5.4). Assumes nothing.
use Rattle.std.specs.Prelude.{ℕ, ◌≤◌, ◌<◌, ◌≡◌, refl, Bool, false, cond, ◌&&◌, eqb}
use Rattle.std.proofs.Common.{arith, ◌∙◌, ap, inl, inr, ⊎_elim, eqb-true, eq-eqb}
use Rattle.std.proofs.Math.Path.{sym, subst}
use Rattle.std.proofs.Math.Bool.{true}
use mathlib.Core.List.{List, [], ◌∷◌, map, Memᴰ}
use Rattle.std.proofs.Math.ListN.{length}
use Rattle.expression.specs.declared.Role.{Role}
use Rattle.expression.specs.declared.Expression.{Expression}
use Rattle.expression.specs.declared.Expression.TheVariants as E
use Rattle.expression.specs.laws.Same.{same-eq}
use Rattle.word.specs.laws.Bools.{false-true, and_parts, and_both}
use Rattle.rt0.specs.Lists.{any, all}
use Rattle.rt0.specs.laws.Lists.{any-find, any_here, all-each, all_of, map-find, map-mem}
use Rattle.tables.specs.Tables.{Tables}
use Rattle.tables.specs.Public.{keep}
use Rattle.tables.specs.laws.Public.{keep-find, keep-mem}
use Rattle.propagation.specs.Flags.{at}
use Rattle.graph.specs.declared.Node.{Node}
use Rattle.graph.specs.declared.Edge.{Edge}
use Rattle.graph.specs.Graph.{node_in}
use Rattle.graph.specs.Form.{form, is_monitor, same_ends}
use Rattle.graph.specs.States.{Child, Satisfied, Failed, solution_kind}
use Rattle.graph.specs.laws.States.{satisfied-inside}
use Rattle.graph.specs.Propagated.{failed_b, complete_b}
use Rattle.graph.specs.laws.Propagated.{satisfied-exact, failed-exact, complete-exact}
use Rattle.states.specs.laws.Brings.{EdgesFormed}
use Rattle.states.specs.laws.Places.{mem_index}
use Rattle.negotiation.specs.State.{State}
use Rattle.moves.specs.declared.Candidate.{Candidate}
use Rattle.moves.specs.declared.Choice.{Choice}
use Rattle.moves.specs.declared.Choice.TheVariants as C
use Rattle.moves.specs.Candidates.{ordered, first_not, mark_if, chosen_in, is_done}
use Rattle.moves.specs.laws.Candidates.{ordered-find, ordered-all, alike-one}
use Rattle.moves.specs.Frontiers.{gather}
use Rattle.moves.specs.laws.FrontiersExact.{gather-mem, gather-find}
use Rattle.moves.specs.Rules.{End, end_in, child_for, owners_in, children_by, is_satisfied, solutions_of, link_rules}
use Rattle.choice.specs.laws.Sensitive.{satisfied_in}
use Rattle.choice.specs.laws.Later.{Later, done-stays}
use Rattle.choice.specs.laws.Elsewhere.{OnlyAt}
use Rattle.choice.specs.laws.Next.{is_nothing, is_goal}
use Rattle.numbers.specs.Sizes.{MOST-NODES}

abbrev pub failed_in : State → ℕ → Bool
failed_in S i = at (failed_b S.nodes S.edges) i

-- Choices

first-nothing : (d : Candidate → Bool) (rest : Choice) (ws : List Candidate) → first_not d rest ws ≡ C.Nothing → (all d ws ≡ true) × (rest ≡ C.Nothing)
unfolding first_not
first-nothing d rest [] h = (refl, h)
first-nothing d rest (w ∷ ws) h = go (d w) h (λ k. first-nothing d rest ws k)
  where
    go : (b : Bool) → cond b (first_not d rest ws) (C.Edge w) ≡ C.Nothing → (first_not d rest ws ≡ C.Nothing → (all d ws ≡ true) × (rest ≡ C.Nothing))
        → ((b && all d ws) ≡ true) × (rest ≡ C.Nothing)
    go true k ih = ih k
    go false k ih = absurd (false-true (ap is_nothing k))

all_nothing : (d : Candidate → Bool) (rest : Choice) (ws : List Candidate) → all d ws ≡ true → rest ≡ C.Nothing → first_not d rest ws ≡ C.Nothing
unfolding first_not
all_nothing d rest [] h k = k
all_nothing d rest (w ∷ ws) h k =
    let p = and_parts (d w) (all d ws) h in
    ap (λ (b : Bool). cond b (first_not d rest ws) (C.Edge w)) p.0 ∙ all_nothing d rest ws p.1 k

-- Children

module _ (o : End) (k i : ℕ) where
  child-edge : {c : ℕ} → Memᴰ c (children_by o k i) → (e : Edge) × Memᴰ e o.state.edges × (e.kind ≡ k) × (e.parent ≡ i) × (c ≡ e.child)
  child-edge m =
      let f = map-find (λ (e : Edge). e.child) (keep (λ (e : Edge). eqb e.kind k && eqb e.parent i) o.state.edges) m in
      let e = keep-find (λ (e : Edge). eqb e.kind k && eqb e.parent i) o.state.edges f.1 in
      let p = and_parts (eqb f.0.kind k) (eqb f.0.parent i) e.1 in
      (f.0, e.0, eqb-true f.0.kind k p.0, eqb-true f.0.parent i p.1, f.2)

  edge-child : (e : Edge) → Memᴰ e o.state.edges → e.kind ≡ k → e.parent ≡ i → Memᴰ e.child (children_by o k i)
  edge-child e m a b =
      map-mem (λ (x : Edge). x.child) (keep-mem (λ (x : Edge). eqb x.kind k && eqb x.parent i) m
      (and_both (eqb e.kind k) (eqb e.parent i) (eq-eqb e.kind k a) (eq-eqb e.parent i b)))

-- the child of a linking-monitor edge is a goal
monitor-goal : (x y : Expression) → is_monitor x y ≡ true → is_goal y ≡ true
monitor-goal (E.Entity a) y h = absurd (false-true h)
monitor-goal (E.Role a) y h = absurd (false-true h)
monitor-goal (E.Linked a r) y h = ap is_goal (same-eq y (E.Goal r) h)
monitor-goal (E.Intersection p) y h = absurd (false-true h)
monitor-goal (E.Goal r) y h = absurd (false-true h)

module _ {ns : List Node} {es : List Edge} (F : EdgesFormed ns es) where
  pub monitored : (e : Edge) → Memᴰ e es → e.kind ≡ 2 → (e.child < length ns) × (is_goal (node_in ns e.child).expression ≡ true)
  unfolding form
  monitored e m h =
      let x = mem_index (record { kind = 0; parent = 0; child = 0 }) m in
      let f = F.formed x.0 x.1 in
      let p : Node = node_in ns e.parent in
      let c : Node = node_in ns e.child in
      let g : form 2 f.0 p c ≡ true = sym (ap (λ (k : ℕ). form k f.0 p c) h)
      ∙ (sym (ap (λ (y : Edge). form y.kind f.0 (node_in ns y.parent) (node_in ns y.child)) x.2) ∙ f.1) in (
        subst (λ (y : Edge). y.child < length ns) x.2 (F.child x.0 x.1),
        monitor-goal p.expression c.expression (and_parts (is_monitor p.expression c.expression) (same_ends p c) g).0,
      )

-- The negotiation went on at another node, which is no goal; the satisfied nodes are the same, and so are the solutions that failed

module _ (T : Tables) (S R : State) (u : Later S R) (few : length S.nodes ≤ MOST-NODES) (m : ℕ) (only : OnlyAt m S R)
    (formed : EdgesFormed S.nodes S.edges) (elsewhere : is_goal (node_in S.nodes m).expression ≡ false)
    (alike : (j : ℕ) → j < length R.nodes → satisfied_in S j ≡ satisfied_in R j)
    (settled : (e : Edge) → Memᴰ e S.edges → e.kind ≡ 3 → failed_in S e.child ≡ failed_in R e.child) where
  -- a goal that is monitored is another node
  other-goal : (g : ℕ) → is_goal (node_in S.nodes g).expression ≡ true → g ≡ m → ⊥
  other-goal g h e = false-true (sym elsewhere ∙ (ap (λ (k : ℕ). is_goal (node_in S.nodes k).expression) (sym e) ∙ h))

  satisfied-back : {c : ℕ} → Satisfied R.nodes R.edges c → Satisfied S.nodes S.edges c
  satisfied-back {c} h =
      (satisfied-exact S.nodes S.edges c).0 (alike c (satisfied-inside h) ∙ (satisfied-exact R.nodes R.edges c).1 h)

  complete-back : (g : ℕ) → g < length S.nodes → (g ≡ m → ⊥) → complete_b R.nodes R.edges g ≡ true → complete_b S.nodes S.edges g ≡ true
  complete-back g l o h =
      let c = (complete-exact R.nodes R.edges g).0 h in
      (complete-exact S.nodes S.edges g).1 (record {
        name = c.name;
        goal = sym (u.more.alike g l).expression ∙ c.goal;
        processed = sym (only.states g l o) ∙ c.processed;
        solved = λ x k. ⊎_elim (λ z. inl (satisfied-back z)) (λ z. inr (failed-back x k z)) (c.solved x (stands x k));
      })
    where
      stands : (x : ℕ) → Child S.nodes S.edges solution_kind g x → Child R.nodes R.edges solution_kind g x
      stands x k = record { kind = k.kind; passes = k.passes; edge = u.more.edges _ k.edge; inside = omega (arith, u.more.more, k.inside) }

      failed-back : (x : ℕ) → Child S.nodes S.edges solution_kind g x → Failed R.nodes R.edges x → Failed S.nodes S.edges x
      failed-back x k z =
          (failed-exact S.nodes S.edges x).0 (settled (record { kind = k.kind; parent = g; child = x }) k.edge (eqb-true k.kind 3 k.passes)
          ∙ (failed-exact R.nodes R.edges x).1 z)

  module _ (i : ℕ) (other : i ≡ m → ⊥) where
    monitor-back : {g : ℕ} → Memᴰ g (children_by (end_in T R) 2 i)
        → Memᴰ g (children_by (end_in T S) 2 i) × (g < length S.nodes) × (is_goal (node_in S.nodes g).expression ≡ true)
    unfolding end_in
    monitor-back {g} k =
        let x = child-edge (end_in T R) 2 i k in
        let e : Edge = x.0 in
        let old : Memᴰ e S.edges = only.edges e x.1 (λ q. other (sym x.3 ∙ q)) in
        let f = monitored formed e old x.2 in (
          subst (λ (c : ℕ). Memᴰ c (children_by (end_in T S) 2 i)) (sym x.4) (edge-child (end_in T S) 2 i e old x.2 x.3),
          subst (λ (c : ℕ). c < length S.nodes) (sym x.4) f.0,
          subst (λ (c : ℕ). is_goal (node_in S.nodes c).expression ≡ true) (sym x.4) f.1,
        )

    solution-back : (r : ℕ) {b : ℕ} → Memᴰ b (solutions_of (end_in T R) r i) → Memᴰ b (solutions_of (end_in T S) r i)
    unfolding end_in
    solution-back r {b} k =
        let o : End = end_in T R in
        let q : End = end_in T S in
        let g = gather-find (λ g. gather (λ c. owners_in r (node_in R.nodes c).expression) (keep (is_satisfied o) (children_by o 3 g))) (children_by o 2 i) k in
        let x = monitor-back g.1 in
        let c = gather-find (λ c. owners_in r (node_in R.nodes c).expression) (keep (is_satisfied o) (children_by o 3 g.0)) g.2 in
        let s = keep-find (is_satisfied o) (children_by o 3 g.0) c.1 in
        let y = child-edge o 3 g.0 s.0 in
        let e : Edge = y.0 in
        let old : Memᴰ e S.edges = only.edges e y.1 (λ z. other-goal g.0 x.2 (sym y.3 ∙ z)) in
        let sat : Satisfied S.nodes S.edges c.0 = satisfied-back ((satisfied-exact R.nodes R.edges c.0).0 s.1) in
        gather-mem (λ g. gather (λ c. owners_in r (node_in S.nodes c).expression) (keep (is_satisfied q) (children_by q 3 g))) x.0
        (gather-mem (λ c. owners_in r (node_in S.nodes c).expression)
        (keep-mem (is_satisfied q) (subst (λ (t : ℕ). Memᴰ t (children_by q 3 g.0)) (sym y.4) (edge-child q 3 g.0 e old y.2 y.3))
        ((satisfied-exact S.nodes S.edges c.0).1 sat))
        (subst (λ (z : Expression). Memᴰ b (owners_in r z)) (u.more.alike c.0 (satisfied-inside sat)).expression c.2))

    mark-back : any (complete_b S.nodes S.edges) (children_by (end_in T S) 2 i) ≡ false
        → any (complete_b R.nodes R.edges) (children_by (end_in T R) 2 i) ≡ false
    mark-back h = go (any (complete_b R.nodes R.edges) (children_by (end_in T R) 2 i)) refl
      where
        go : (b : Bool) → any (complete_b R.nodes R.edges) (children_by (end_in T R) 2 i) ≡ b → b ≡ false
        go true k =
            let w = any-find (complete_b R.nodes R.edges) (children_by (end_in T R) 2 i) k in
            let x = monitor-back w.1 in
            absurd (false-true (sym h ∙ any_here (complete_b S.nodes S.edges) x.0
            (complete-back w.0 x.1 (other-goal w.0 x.2) w.2)))
        go false k = refl

    abbrev link_edges : Node → Role → List ℕ → List Candidate
    link_edges n a bs = map (λ b. child_for 4 n (E.Role a) b) bs

    abbrev wanted : Role → ℕ → Node → List ℕ → List Candidate
    wanted a r n bs = child_for 2 n (E.Goal r) n.subject ∷ ordered (link_edges n a bs)

    -- where nothing was to be done by the rules for a linked target, nothing is
    pub link_stays : i < length S.nodes → (a : Role) (r : ℕ)
        → chosen_in (is_done S.nodes S.edges i) (link_rules (end_in T S) i (node_in S.nodes i) a r) ≡ C.Nothing
        → chosen_in (is_done R.nodes R.edges i) (link_rules (end_in T R) i (node_in R.nodes i) a r) ≡ C.Nothing
    unfolding chosen_in end_in
    link_stays inside a r h =
        (λ t. first_not e (mark_if marks) (wanted a r (there t) (solutions_of (end_in T R) r i))) ∙ all_nothing e (mark_if marks) new every unmarked
      where
        n : Node
        n = node_in S.nodes i

        o : Node
        o = node_in R.nodes i

        there : o ≡ record { expression = o.expression; subject = n.subject; verifier = n.verifier; state = o.state }
        there =
            let x = u.more.alike i inside in
            λ t. record { expression = o.expression; subject = x.subject t; verifier = x.verifier t; state = o.state }

        d : Candidate → Bool
        d = is_done S.nodes S.edges i

        e : Candidate → Bool
        e = is_done R.nodes R.edges i

        marks : Bool
        marks = any (complete_b R.nodes R.edges) (children_by (end_in T R) 2 i)

        old : List ℕ
        old = solutions_of (end_in T S) r i

        new : List Candidate
        new = wanted a r n (solutions_of (end_in T R) r i)

        was : (all d (wanted a r n old) ≡ true) × (mark_if (any (complete_b S.nodes S.edges) (children_by (end_in T S) 2 i)) ≡ C.Nothing)
        was = first-nothing d (mark_if (any (complete_b S.nodes S.edges) (children_by (end_in T S) 2 i))) (wanted a r n old) h

        unmarked : mark_if marks ≡ C.Nothing
        unmarked = ap mark_if (mark-back (go (any (complete_b S.nodes S.edges) (children_by (end_in T S) 2 i)) was.1))
          where
            go : (b : Bool) → mark_if b ≡ C.Nothing → b ≡ false
            go true k = absurd (false-true (ap is_nothing k))
            go false k = refl

        linked : all d (link_edges n a old) ≡ true
        linked =
            sym (ordered-all (link_edges n a old) (alike-one d (link_edges n a old) pairs))
            ∙ (and_parts (d (child_for 2 n (E.Goal r) n.subject)) (all d (ordered (link_edges n a old))) was.0).1
          where
            pairs : (v w : Candidate) → Memᴰ v (link_edges n a old) → Memᴰ w (link_edges n a old)
                → (v.kind ≡ w.kind) × (v.verifier ≡ w.verifier) × (v.direct ≡ w.direct)
            pairs v w p q =
                let f = map-find (λ b. child_for 4 n (E.Role a) b) old p in
                let g = map-find (λ b. child_for 4 n (E.Role a) b) old q in (
                  ap (λ (x : Candidate). x.kind) f.2 ∙ sym (ap (λ (x : Candidate). x.kind) g.2),
                  ap (λ (x : Candidate). x.verifier) f.2 ∙ sym (ap (λ (x : Candidate). x.verifier) g.2),
                  ap (λ (x : Candidate). x.direct) f.2 ∙ sym (ap (λ (x : Candidate). x.direct) g.2),
                )

        every : all e new ≡ true
        every =
            and_both (e (child_for 2 n (E.Goal r) n.subject)) (all e (ordered (link_edges n a (solutions_of (end_in T R) r i))))
            (done-stays u.more few i (child_for 2 n (E.Goal r) n.subject)
            (and_parts (d (child_for 2 n (E.Goal r) n.subject)) (all d (ordered (link_edges n a old))) was.0).0)
            (all_of e (ordered (link_edges n a (solutions_of (end_in T R) r i))) (λ w k. one w (ordered-find (link_edges n a (solutions_of (end_in T R) r i)) k)))
          where
            one : (w : Candidate) → Memᴰ w (link_edges n a (solutions_of (end_in T R) r i)) → e w ≡ true
            one w k =
                let f = map-find (λ b. child_for 4 n (E.Role a) b) (solutions_of (end_in T R) r i) k in
                ap e f.2
                ∙ done-stays u.more few i (child_for 4 n (E.Role a) f.0)
                (all-each d (map-mem (λ b. child_for 4 n (E.Role a) b) (solution-back r f.1)) linked)
