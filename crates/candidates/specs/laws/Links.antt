-- The edges of a linked target: which of its goal's solutions are satisfied, and whether the goal is complete (sections 5.3 and 5.4). Assumes
-- nothing.
use Prim.Native.Nat.{ℕ, ◌+◌, ◌≤◌, ◌<◌}
use Rattle.std.proofs.Common.{arith, ◌∙◌, ⊎_elim, length-set}
use Rattle.std.specs.Prelude.{◌≡◌, refl, Bool, true, not, ◌&&◌, ◌||◌, ltb, length, set, replicate}
use Rattle.std.proofs.Math.Path.{sym, ap, subst}
use Rattle.std.proofs.Math.Bool.{false, cond}
use mathlib.Core.List.Memᴰ
use mathlib.Core.List.{List, [], ◌∷◌, map, Memᴰ}
use borrow.Author.Tests.{eqb-true, eqb-false, eq-eqb, ne_eqb, ltb-true, lt-ltb, leb-false, lt-leb, not-true, not-false}
use Rattle.std.proofs.Math.Dec.{eqb, leb}
use Rattle.std.proofs.Math.ListN.{get_or}
use Rattle.std.proofs.lemmas.List.{length-replicate}
use Rattle.expression.specs.declared.Role.{Role}
use Rattle.expression.specs.declared.Expression.{Expression}
use Rattle.expression.specs.declared.Expression.TheVariants as E
use Rattle.rt0.specs.Pool.{up_to}
use Rattle.rt0.specs.Lists.{any}
use Rattle.rt0.specs.laws.Lists.{any-find, any_here, map-find, map-mem}
use Rattle.word.specs.laws.Bools.{false-true, and_parts, and_both, or-neither, bool_iff}
use Rattle.tables.specs.Public.{keep}
use Rattle.tables.specs.laws.Public.{keep-find, keep-mem}
use Rattle.propagation.specs.Flags.{at}
use Rattle.propagation.specs.laws.Flags.{flag, decided, flag-zeros, flag_same, flag-grows, flag-cases}
use Rattle.graph.specs.declared.Node.{Node}
use Rattle.graph.specs.declared.Edge.{Edge}
use Rattle.graph.specs.declared.Nodes.{Nodes}
use Rattle.graph.specs.declared.Edges.{Edges}
use Rattle.graph.specs.laws.Graph.{node_at, edge_at, nodes_of, edges_of, edge_in}
use Rattle.graph.specs.Graph.{node_in}
use Rattle.graph.specs.Form.{is_named}
use Rattle.graph.specs.laws.Columns.{nodes-length, edges-length, node_in_lem, edge_in_lem}
use Rattle.graph.specs.Propagated.{satisfied_b, complete_b}
use Rattle.states.specs.laws.Brings.{EdgesFormed}
use Rattle.states.specs.laws.Complete.{StateColumns}
use Rattle.needed.specs.laws.Column.{up_to-mem, up_to-find}
use Rattle.moves.specs.declared.Candidate.{Candidate}
use Rattle.moves.specs.declared.Choice.{Choice}
use Rattle.moves.specs.declared.Choice.TheVariants as C
use Rattle.moves.specs.Frontiers.{gather}
use Rattle.moves.specs.laws.FrontiersExact.{gather-mem, gather-find}
use Rattle.moves.specs.Candidates.{ordered, first_not, mark_if, chosen_in, is_done}
use Rattle.moves.specs.Rules.{End, owners_in, child_for, children_by, is_satisfied, solutions_of, link_rules}
use Rattle.candidates.specs.laws.Least.{better, Uniform, or_else, first_rest}
use Rattle.candidates.specs.laws.Offers.{folded, offer, offer-taken, offer-left, Among, Is, offers-first}
use Rattle.numbers.specs.Sizes.{MOST-NODES}

-- The goals that a node monitors

-- the column flags the children of node i by linking-monitor edges below k
pub record Monitoring (E : Edges) (i k : ℕ) (r : List ℕ) : Type 0 where
  pub sized : length r ≡ 128
  pub from : (g : ℕ) → flag r g ≡ true → (j : ℕ) × (j < k) × (get_or E.kind j 0 ≡ 2) × (get_or E.parent j 0 ≡ i) × (get_or E.child j 0 ≡ g)
  pub all : (j : ℕ) → j < k → get_or E.kind j 0 ≡ 2 → get_or E.parent j 0 ≡ i → get_or E.child j 0 < 128 → flag r (get_or E.child j 0) ≡ true

module _ (E : Edges) (i : ℕ) where
  pub monitoring-start : Monitoring E i 0 (replicate 128 0)
  monitoring-start =
      record { sized = length-replicate {A = ℕ} 128 0; from = λ g h. absurd (false-true (sym (flag-zeros 128 g) ∙ h)); all = λ j h. absurd (omega arith) }

  -- edge k is none, or its child has no place in the column
  pub monitoring-skip : {k : ℕ} {r : List ℕ} → Monitoring E i k r
      → (get_or E.kind k 0 ≡ 2 → get_or E.parent k 0 ≡ i → get_or E.child k 0 < 128 → ⊥) → Monitoring E i (k + 1) r
  monitoring-skip {k} {r} M h =
      record {
        sized = M.sized;
        from = λ g f. let w = M.from g f in let l : w.0 < k = w.1 in (w.0, omega arith, w.2, w.3, w.4);
        all = λ j l a b c.
            ⊎_elim (λ z. let q : j ≡ k = eqb-true j k z in absurd
            (h (ap (λ (x : ℕ). get_or E.kind x 0) (sym q) ∙ a) (ap (λ (x : ℕ). get_or E.parent x 0) (sym q) ∙ b)
            (subst (λ (x : ℕ). get_or E.child x 0 < 128) q c)))
            (λ z. M.all j (omega (arith, eqb-false j k z)) a b c) (decided (eqb j k));
      }

  pub monitoring-next : {k : ℕ} {r q : List ℕ} {c : ℕ} → Monitoring E i k r → get_or E.kind k 0 ≡ 2 → get_or E.parent k 0 ≡ i
      → c ≡ get_or E.child k 0 → c < 128 → q ≡ set r c 1 → Monitoring E i (k + 1) q
  monitoring-next {k} {r} {q} {c} M a b e l s =
      let inside : c < length r = omega (arith, M.sized) in
      record {
        sized = ap length s ∙ (length-set r c 1 ∙ M.sized);
        from = λ g f.
            ⊎_elim (λ z. (k, omega arith, a, b, sym e ∙ sym z)) (λ z. let w = M.from g z in let h : w.0 < k = w.1 in (w.0, omega arith, w.2, w.3, w.4))
            (flag-cases r c g (ap (λ (x : List ℕ). flag x g) (sym s) ∙ f));
        all = λ j h u v t.
            ⊎_elim
            (λ z.
            let y : get_or E.child j 0 ≡ c = ap (λ (x : ℕ). get_or E.child x 0) (eqb-true j k z) ∙ sym e in
            ap (flag q) y ∙ (ap (λ (x : List ℕ). flag x c) s ∙ flag_same r c inside))
            (λ z. ap (λ (x : List ℕ). flag x (get_or E.child j 0)) s
            ∙ flag-grows r c (get_or E.child j 0) inside (M.all j (omega (arith, eqb-false j k z)) u v t))
            (decided (eqb j k));
      }

  -- by the test of edge k
  module _ {k : ℕ} {r q : List ℕ} {c : ℕ} (M : Monitoring E i k r) (e : c ≡ get_or E.child k 0) where
    pub monitoring-hit : (eqb (get_or E.kind k 0) 2 && eqb (get_or E.parent k 0) i && ltb c 128) ≡ true → q ≡ set r c 1 → Monitoring E i (k + 1) q
    monitoring-hit h s =
        let p = and_parts (eqb (get_or E.kind k 0) 2 && eqb (get_or E.parent k 0) i) (ltb c 128) h in
        let t = and_parts (eqb (get_or E.kind k 0) 2) (eqb (get_or E.parent k 0) i) p.0 in
        monitoring-next M (eqb-true (get_or E.kind k 0) 2 t.0) (eqb-true (get_or E.parent k 0) i t.1) e (ltb-true c 128 p.1) s

    pub monitoring-miss : (eqb (get_or E.kind k 0) 2 && eqb (get_or E.parent k 0) i && ltb c 128) ≡ false → q ≡ r → Monitoring E i (k + 1) q
    monitoring-miss h s =
        subst (Monitoring E i (k + 1)) (sym s)
        (monitoring-skip M (λ a b l. false-true (sym h
        ∙ and_both (eqb (get_or E.kind k 0) 2 && eqb (get_or E.parent k 0) i) (ltb c 128)
        (and_both (eqb (get_or E.kind k 0) 2) (eqb (get_or E.parent k 0) i) (eq-eqb (get_or E.kind k 0) 2 a)
        (eq-eqb (get_or E.parent k 0) i b)) (lt-ltb c 128 (omega (arith, e, l))))))

pub monitoring-room : (E : Edges) (i k c : ℕ) → (eqb (get_or E.kind k 0) 2 && eqb (get_or E.parent k 0) i && ltb c 128) ≡ true → c < 128
monitoring-room E i k c h = ltb-true c 128 (and_parts (eqb (get_or E.kind k 0) 2 && eqb (get_or E.parent k 0) i) (ltb c 128) h).1

pub monitoring-all : (E : Edges) (i : ℕ) {k m : ℕ} {r : List ℕ} → Monitoring E i k r → m ≤ k → k ≤ m → Monitoring E i m r
monitoring-all E i {k} {m} {r} M l h = subst (λ (j : ℕ). Monitoring E i j r) (omega arith) M

-- The satisfied solutions

-- the entity of a role
abbrev pub entity_in : Expression → ℕ
entity_in (E.Entity a) = 0
entity_in (E.Role a) = a.entity
entity_in (E.Linked a r) = 0
entity_in (E.Intersection p) = 0
entity_in (E.Goal r) = 0

owners-find : (r : ℕ) (x : Expression) {b : ℕ} → Memᴰ b (owners_in r x) → (is_named r x ≡ true) × (b ≡ entity_in x)
owners-find r (E.Entity a) m = absurd (Memᴰ.not-nil m)
owners-find r (E.Role a) {b} m = go (eqb a.name r) m
  where
    go : (t : Bool) → Memᴰ b (cond t (a.entity ∷ []) []) → (t ≡ true) × (b ≡ a.entity)
    go true k = (refl, ⊎_elim (λ e. e) (λ z. absurd (Memᴰ.not-nil z)) (Memᴰ.cases_cons k))
    go false k = absurd (Memᴰ.not-nil k)
owners-find r (E.Linked a s) m = absurd (Memᴰ.not-nil m)
owners-find r (E.Intersection p) m = absurd (Memᴰ.not-nil m)
owners-find r (E.Goal s) m = absurd (Memᴰ.not-nil m)

owners-mem : (r : ℕ) (x : Expression) → is_named r x ≡ true → Memᴰ (entity_in x) (owners_in r x)
owners-mem r (E.Entity a) h = absurd (false-true h)
owners-mem r (E.Role a) h = subst (λ (t : Bool). Memᴰ a.entity (cond t (a.entity ∷ []) [])) (sym h) (Memᴰ.head refl)
owners-mem r (E.Linked a s) h = absurd (false-true h)
owners-mem r (E.Intersection p) h = absurd (false-true h)
owners-mem r (E.Goal s) h = absurd (false-true h)

pub outside-not : (n g c : ℕ) → (leb n g || leb n c) ≡ false → (g < n) × (c < n)
outside-not n g c h = let o = or-neither (leb n g) (leb n c) h in (leb-false n g o.0, leb-false n c o.1)

-- with two tests before it
abbrev behind : Bool → Bool → Bool → Bool
behind kind outside flagged = cond kind (cond outside false flagged) false

behind-parts : (a b c : Bool) → behind a b c ≡ true → (a ≡ true) × (b ≡ false) × (c ≡ true)
behind-parts true true c h = absurd (false-true h)
behind-parts true false c h = (refl, refl, h)
behind-parts false b c h = absurd (false-true h)

module _ (n : ℕ) (K P C mon sat : List ℕ) (j : ℕ) where
  -- edge j brings a goal that is monitored a satisfied solution; both are below n
  unfoldable pub is_solution : Bool
  is_solution = behind (eqb (get_or K j 0) 3) (leb n (get_or P j 0) || leb n (get_or C j 0)) (flag mon (get_or P j 0) && flag sat (get_or C j 0))

  pub solution-kind : (get_or K j 0 ≡ 3 → ⊥) → false ≡ is_solution
  unfolding is_solution
  solution-kind h =
      sym (ap (λ (b : Bool). behind b (leb n (get_or P j 0) || leb n (get_or C j 0)) (flag mon (get_or P j 0) && flag sat (get_or C j 0))) (ne_eqb (get_or K j 0) 3 h))

  module _ (k : get_or K j 0 ≡ 3) {g c : ℕ} (p : g ≡ get_or P j 0) (q : c ≡ get_or C j 0) where
    by-room : (b : Bool) → (leb n g || leb n c) ≡ b → cond b false (flag mon g && flag sat c) ≡ is_solution
    unfolding is_solution
    by-room b h =
        let o : (leb n (get_or P j 0) || leb n (get_or C j 0)) ≡ b = sym (λ i. leb n (p i) || leb n (q i)) ∙ h in
        sym (ap (λ (x : Bool). behind x (leb n (get_or P j 0) || leb n (get_or C j 0)) (flag mon (get_or P j 0) && flag sat (get_or C j 0)))
        (eq-eqb (get_or K j 0) 3 k) ∙ (λ i. cond (o i) false (sym (λ t. flag mon (p t) && flag sat (q t)) i)))

    pub solution-outside : (leb n g || leb n c) ≡ true → false ≡ is_solution
    solution-outside h = by-room true h

    pub solution-flags : (leb n g || leb n c) ≡ false → {b : Bool} → b ≡ (flag mon g && flag sat c) → b ≡ is_solution
    solution-flags h e = e ∙ by-room false h

  -- what it says
  pub solution-parts : is_solution ≡ true → (get_or K j 0 ≡ 3) × (get_or P j 0 < n) × (get_or C j 0 < n) × (flag mon (get_or P j 0) ≡ true)
      × (flag sat (get_or C j 0) ≡ true)
  unfolding is_solution
  solution-parts h =
      let w = behind-parts (eqb (get_or K j 0) 3) (leb n (get_or P j 0) || leb n (get_or C j 0)) (flag mon (get_or P j 0) && flag sat (get_or C j 0)) h in
      let o = outside-not n (get_or P j 0) (get_or C j 0) w.1 in
      let f = and_parts (flag mon (get_or P j 0)) (flag sat (get_or C j 0)) w.2 in
      (eqb-true (get_or K j 0) 3 w.0, o.0, o.1, f.0, f.1)

  pub solution-room : is_solution ≡ true → {c : ℕ} → c ≡ get_or C j 0 → c < n
  solution-room h e = omega (arith, (solution-parts h).2)

  solution-of : get_or K j 0 ≡ 3 → get_or P j 0 < n → get_or C j 0 < n → flag mon (get_or P j 0) ≡ true → flag sat (get_or C j 0) ≡ true → is_solution ≡ true
  unfolding is_solution
  solution-of k a b m s = λ i. behind (eq-eqb (get_or K j 0) 3 k i) (lt-leb n (get_or P j 0) a i || lt-leb n (get_or C j 0) b i) (m i && s i)

-- node c is a role of name r
unfoldable pub is_named_at : Nodes → ℕ → ℕ → Bool
is_named_at N r c = is_named r (node_at N c).expression

module _ (N : Nodes) (E : Edges) (mon sat : List ℕ) (r : ℕ) (j : ℕ) where
  abbrev pub goal_at : ℕ
  goal_at = get_or E.parent j 0

  abbrev pub solution_at : ℕ
  solution_at = get_or E.child j 0

  -- edge j brings a goal that is monitored a satisfied solution of name r
  unfoldable pub is_solved : Bool
  is_solved = is_solution N.count E.kind E.parent E.child mon sat j && is_named_at N r solution_at

  -- what it says
  pub solved-parts : is_solved ≡ true
      → (get_or E.kind j 0 ≡ 3) × (goal_at < N.count) × (solution_at < N.count) × (flag mon goal_at ≡ true) × (flag sat solution_at ≡ true)
      × (is_named r (node_at N solution_at).expression ≡ true)
  unfolding is_solved is_named_at
  solved-parts h =
      let w = and_parts (is_solution N.count E.kind E.parent E.child mon sat j) (is_named_at N r solution_at) h in
      let s = solution-parts N.count E.kind E.parent E.child mon sat j w.0 in
      (s.0, s.1, s.2, s.3, s.4, w.1)

  pub solved-of : get_or E.kind j 0 ≡ 3 → goal_at < N.count → solution_at < N.count → flag mon goal_at ≡ true → flag sat solution_at ≡ true
      → is_named r (node_at N solution_at).expression ≡ true → is_solved ≡ true
  unfolding is_solved is_named_at
  solved-of k a b m s x =
      and_both (is_solution N.count E.kind E.parent E.child mon sat j) (is_named_at N r solution_at)
      (solution-of N.count E.kind E.parent E.child mon sat j k a b m s) x

abbrev pub link_edge : Node → Role → ℕ → Candidate
link_edge n a b = child_for 4 n (E.Role a) b

-- the linking implication for solution c
unfoldable pub solution_edge : Nodes → Node → Role → ℕ → Candidate
solution_edge N n a c = link_edge n a (entity_in (node_at N c).expression)

unfoldable pub solved_edge : Nodes → Edges → Node → Role → ℕ → Candidate
solved_edge N X n a j = solution_edge N n a (get_or X.child j 0)

module _ (d : Candidate → Bool) (N : Nodes) (n : Node) (a : Role) (r c : ℕ) (b : Choice) {x : Expression} (e : x ≡ (node_at N c).expression) {t : Bool}
    (p : t ≡ is_named r x) where
  named : t ≡ is_named_at N r c
  unfolding is_named_at
  named = p ∙ ap (is_named r) e

  pub named_other : not t ≡ true → b ≡ offer d (is_named_at N r) (solution_edge N n a) b c
  named_other h = offer-left d (is_named_at N r) (solution_edge N n a) b c (sym named ∙ not-true t h)

  pub named-edge : not t ≡ false → {o : ℕ} {w : Candidate} {z : Choice} → o ≡ entity_in x → w ≡ link_edge n a o → z ≡ better d b w
      → z ≡ offer d (is_named_at N r) (solution_edge N n a) b c
  unfolding solution_edge
  named-edge h u v q =
      offer-taken d (is_named_at N r) (solution_edge N n a) b c (sym named ∙ not-false t h) (q ∙ ap (better d b) (v ∙ ap (link_edge n a) (u ∙ ap entity_in e)))

module _ (d : Candidate → Bool) (N : Nodes) (E : Edges) (mon sat : List ℕ) (r : ℕ) (n : Node) (a : Role) (j : ℕ) where
  -- an edge that brings a solution offers what the solution does
  pub solved-here : is_solution N.count E.kind E.parent E.child mon sat j ≡ true → (b : Choice) {z : Choice} {c : ℕ}
      → c ≡ get_or E.child j 0 → z ≡ offer d (is_named_at N r) (solution_edge N n a) b c
      → z ≡ offer d (is_solved N E mon sat r) (solved_edge N E n a) b j
  unfolding offer is_solved solved_edge
  solved-here h b e q =
      q ∙ (ap (offer d (is_named_at N r) (solution_edge N n a) b) e
      ∙ sym (ap (λ (x : Bool). cond (x && is_named_at N r (get_or E.child j 0)) (better d b (solved_edge N E n a j)) b) h))

  -- any other is passed over
  pub solved-skip : is_solution N.count E.kind E.parent E.child mon sat j ≡ false → (b : Choice)
      → offer d (is_solved N E mon sat r) (solved_edge N E n a) b j ≡ b
  unfolding is_solved
  solved-skip h b = sym (offer-left d (is_solved N E mon sat r) (solved_edge N E n a) b j (ap (λ (x : Bool). x && is_named_at N r (get_or E.child j 0)) h))

-- All of them

-- every edge of the columns joins nodes
inside : (N : Nodes) (E : Edges) → EdgesFormed (nodes_of N) (edges_of E) → (j : ℕ) → j < E.count
    → (get_or E.parent j 0 < N.count) × (get_or E.child j 0 < N.count)
inside N E F j l =
    let e = edge_in_lem E j l in
    let h : j < length (edges_of E) = omega (arith, edges-length E) in
    let a = F.parent j h in
    let b = F.child j h in
    let p : (edge_in (edges_of E) j).parent ≡ get_or E.parent j 0 = ap (λ (x : Edge). x.parent) e in
    let q : (edge_in (edges_of E) j).child ≡ get_or E.child j 0 = ap (λ (x : Edge). x.child) e in
    (omega (arith, a, p, nodes-length N), omega (arith, b, q, nodes-length N))

pub child-inside : (N : Nodes) (E : Edges) → EdgesFormed (nodes_of N) (edges_of E) → (j : ℕ) → j < E.count → {g : ℕ} → g ≡ get_or E.child j 0 → g < N.count
child-inside N E F j l p = omega (arith, (inside N E F j l).1)

module _ (o : End) (N : Nodes) (E : Edges) (ne : o.state.nodes ≡ nodes_of N) (ee : o.state.edges ≡ edges_of E) where
  -- a child by an edge of kind k is one of the columns
  pub child-find : (k i : ℕ) {g : ℕ} → Memᴰ g (children_by o k i)
      → (j : ℕ) × (j < E.count) × (get_or E.kind j 0 ≡ k) × (get_or E.parent j 0 ≡ i) × (g ≡ get_or E.child j 0)
  unfolding edges_of
  child-find k i m =
      let f = map-find (λ (e : Edge). e.child) (keep (λ (e : Edge). eqb e.kind k && eqb e.parent i) o.state.edges) m in
      let e = keep-find (λ (e : Edge). eqb e.kind k && eqb e.parent i) o.state.edges f.1 in
      let u = up_to-find E.count (edge_at E) f.0 (subst (λ (es : List Edge). Memᴰ f.0 es) ee e.0) in
      let p = and_parts (eqb f.0.kind k) (eqb f.0.parent i) e.1 in (
        u.0,
        u.1,
        sym (ap (λ (x : Edge). x.kind) u.2) ∙ eqb-true f.0.kind k p.0,
        sym (ap (λ (x : Edge). x.parent) u.2)
            ∙ eqb-true f.0.parent i p.1,
        f.2 ∙ ap (λ (x : Edge). x.child) u.2,
      )

  pub child-mem : (k i j : ℕ) → j < E.count → get_or E.kind j 0 ≡ k → get_or E.parent j 0 ≡ i → Memᴰ (get_or E.child j 0) (children_by o k i)
  unfolding edges_of
  child-mem k i j l a b =
      map-mem (λ (e : Edge). e.child) (keep-mem (λ (e : Edge). eqb e.kind k && eqb e.parent i)
      (subst (λ (es : List Edge). Memᴰ (edge_at E j) es) (sym ee) (up_to-mem E.count (edge_at E) j l))
      (and_both (eqb (get_or E.kind j 0) k) (eqb (get_or E.parent j 0) i) (eq-eqb (get_or E.kind j 0) k a) (eq-eqb (get_or E.parent j 0) i b)))

  module _ (F : EdgesFormed (nodes_of N) (edges_of E)) (few : N.count ≤ MOST-NODES) {mon sat failed : List ℕ} {i : ℕ}
      (M : Monitoring E i E.count mon) (S : StateColumns (nodes_of N) (edges_of E) sat failed) (r : ℕ) (n : Node) (a : Role) where
    abbrev edges : List Candidate
    edges = map (link_edge n a) (solutions_of o r i)

    -- the expression of a node
    expressed : (c : ℕ) → c < N.count → (node_in o.state.nodes c).expression ≡ (node_at N c).expression
    expressed c l = ap (λ (x : Node). x.expression) (ap (λ (ns : List Node). node_in ns c) ne ∙ node_in_lem N c l)

    satisfied : (c : ℕ) → is_satisfied o c ≡ flag sat c
    satisfied c = (λ t. at (satisfied_b (ne t) (ee t)) c) ∙ sym (S.is-sat c)

    to : (w : Candidate) → Memᴰ w edges → Among E.count (is_solved N E mon sat r) (Is (solved_edge N E n a)) w
    unfolding solved_edge solution_edge
    to w m =
        let f = map-find (link_edge n a) (solutions_of o r i) m in
        let g = gather-find (λ g. gather (λ c. owners_in r (node_in o.state.nodes c).expression) (keep (is_satisfied o) (children_by o 3 g)))
        (children_by o 2 i) f.1 in
        let x = child-find 2 i g.1 in
        let c = gather-find (λ c. owners_in r (node_in o.state.nodes c).expression) (keep (is_satisfied o) (children_by o 3 g.0)) g.2 in
        let s = keep-find (is_satisfied o) (children_by o 3 g.0) c.1 in
        let y = child-find 3 g.0 s.0 in
        let v = owners-find r (node_in o.state.nodes c.0).expression c.2 in
        let j : ℕ = y.0 in
        let ij = inside N E F j y.1 in
        let ix = inside N E F x.0 x.1 in
        let e : c.0 ≡ get_or E.child j 0 = y.4 in
        let z : (node_in o.state.nodes c.0).expression
        ≡ (node_at N (get_or E.child j 0)).expression = ap (λ (t : ℕ). (node_in o.state.nodes t).expression) e ∙ expressed (get_or E.child j 0) ij.1 in
        let q : get_or E.parent j 0 ≡ get_or E.child x.0 0 = y.3 ∙ x.4 in
        let small : get_or E.child x.0 0 < 128 = omega (arith, ix.1, few) in
        record {
          at = j;
          below = y.1;
          passes =
              solved-of N E mon sat r j y.2 ij.0 ij.1 (ap (flag mon) q ∙ M.all x.0 x.1 x.2 x.3 small)
              (ap (flag sat) (sym e) ∙ (sym (satisfied c.0) ∙ s.1)) (ap (is_named r) (sym z) ∙ v.0);
          leads = record { same = f.2 ∙ ap (link_edge n a) (v.1 ∙ ap entity_in z) };
        }

    fro : (w : Candidate) → Among E.count (is_solved N E mon sat r) (Is (solved_edge N E n a)) w → Memᴰ w edges
    unfolding solved_edge solution_edge
    fro w h =
        let j : ℕ = h.at in
        let p = solved-parts N E mon sat r j h.passes in
        let c : ℕ = get_or E.child j 0 in
        let g : ℕ = get_or E.parent j 0 in
        let m = M.from g p.3 in
        let z = expressed c p.2 in
        subst (λ (v : Candidate). Memᴰ v edges) (sym h.leads.same)
        (map-mem (link_edge n a)
        (gather-mem (λ g. gather (λ c. owners_in r (node_in o.state.nodes c).expression) (keep (is_satisfied o) (children_by o 3 g)))
        (subst (λ (t : ℕ). Memᴰ t (children_by o 2 i)) m.4 (child-mem 2 i m.0 m.1 m.2 m.3))
        (gather-mem (λ c. owners_in r (node_in o.state.nodes c).expression)
        (keep-mem (is_satisfied o) (child-mem 3 g j h.below p.0 refl) (satisfied c ∙ p.4))
        (subst (λ (x : Expression). Memᴰ (entity_in (node_at N c).expression) (owners_in r x)) (sym z) (owners-mem r (node_at N c).expression p.5)))))

    uniform : Uniform 4 n.verifier edges
    uniform =
        record {
          each = λ w m. let f = map-find (link_edge n a) (solutions_of o r i) m in
              (ap (λ (v : Candidate). v.kind) f.2, ap (λ (v : Candidate). v.verifier) f.2, ap (λ (v : Candidate). v.direct) f.2);
        }

    -- the first linking implication in order that is not done
    pub links-first : (d : Candidate → Bool) {c : Choice} → c ≡ folded E.count (offer d (is_solved N E mon sat r) (solved_edge N E n a)) C.Nothing
        → c ≡ first_not d C.Nothing (ordered (map (link_edge n a) (solutions_of o r i)))
    links-first d q = q ∙ offers-first d (is_solved N E mon sat r) (solved_edge N E n a) E.count edges uniform to fro

-- Whether a goal is complete

-- edge j leads node i to a goal
unfoldable pub is_monitor : List ℕ → List ℕ → ℕ → ℕ → Bool
is_monitor K P i j = eqb (get_or K j 0) 2 && eqb (get_or P j 0) i

-- and the goal is complete
unfoldable pub is_complete_at : Nodes → Edges → ℕ → ℕ → Bool
is_complete_at N E i j = is_monitor E.kind E.parent i j && complete_b (nodes_of N) (edges_of E) (get_or E.child j 0)

module _ (N : Nodes) (E : Edges) (i j : ℕ) where
  pub complete-skip : is_monitor E.kind E.parent i j ≡ false → is_complete_at N E i j ≡ false
  unfolding is_complete_at
  complete-skip h = ap (λ (b : Bool). b && complete_b (nodes_of N) (edges_of E) (get_or E.child j 0)) h

  pub complete-goal : is_monitor E.kind E.parent i j ≡ true → {b : Bool} {g : ℕ} → g ≡ get_or E.child j 0
      → b ≡ complete_b (nodes_of N) (edges_of E) g → b ≡ is_complete_at N E i j
  unfolding is_complete_at
  complete-goal h p q = q ∙ (ap (complete_b (nodes_of N) (edges_of E)) p ∙ sym (ap (λ (b : Bool). b && complete_b (nodes_of N) (edges_of E) (get_or E.child j 0)) h))

pub any-complete : (o : End) (N : Nodes) (E : Edges) → o.state.nodes ≡ nodes_of N → o.state.edges ≡ edges_of E → (i : ℕ)
    → any (is_complete_at N E i) (up_to E.count (λ j. j)) ≡ any (complete_b o.state.nodes o.state.edges) (children_by o 2 i)
unfolding is_complete_at is_monitor
any-complete o N E ne ee i =
    bool_iff (any (is_complete_at N E i) (up_to E.count (λ j. j))) (any (complete_b o.state.nodes o.state.edges) (children_by o 2 i)) to fro
  where
    both : (g : ℕ) → complete_b o.state.nodes o.state.edges g ≡ complete_b (nodes_of N) (edges_of E) g
    both g = λ t. complete_b (ne t) (ee t) g

    to : any (is_complete_at N E i) (up_to E.count (λ j. j)) ≡ true → any (complete_b o.state.nodes o.state.edges) (children_by o 2 i) ≡ true
    to h =
        let w = any-find (is_complete_at N E i) (up_to E.count (λ j. j)) h in
        let u = up_to-find E.count (λ j. j) w.0 w.1 in
        let j : ℕ = w.0 in
        let q = and_parts (eqb (get_or E.kind j 0) 2 && eqb (get_or E.parent j 0) i) (complete_b (nodes_of N) (edges_of E) (get_or E.child j 0)) w.2 in
        let p = and_parts (eqb (get_or E.kind j 0) 2) (eqb (get_or E.parent j 0) i) q.0 in
        let z : j ≡ u.0 = u.2 in
        let l : u.0 < E.count = u.1 in
        any_here (complete_b o.state.nodes o.state.edges)
        (child-mem o N E ne ee 2 i j (omega (arith, z, l)) (eqb-true (get_or E.kind j 0) 2 p.0) (eqb-true (get_or E.parent j 0) i p.1))
        (both (get_or E.child j 0) ∙ q.1)

    fro : any (complete_b o.state.nodes o.state.edges) (children_by o 2 i) ≡ true → any (is_complete_at N E i) (up_to E.count (λ j. j)) ≡ true
    fro h =
        let w = any-find (complete_b o.state.nodes o.state.edges) (children_by o 2 i) h in
        let x = child-find o N E ne ee 2 i w.1 in
        let j : ℕ = x.0 in
        let z : complete_b (nodes_of N) (edges_of E) (get_or E.child j 0) ≡ true = sym (both (get_or E.child j 0))
        ∙ (ap (complete_b o.state.nodes o.state.edges) (sym x.4) ∙ w.2) in
        any_here (is_complete_at N E i) (up_to-mem E.count (λ j. j) j x.1)
        (λ t. (eq-eqb (get_or E.kind j 0) 2 x.2 t && eq-eqb (get_or E.parent j 0) i x.3 t) && z t)

-- What the rules come to

abbrev pub goal_edge : Node → ℕ → Candidate
goal_edge n r = child_for 2 n (E.Goal r) n.subject

-- the choice for a linked target A.r1.r2, node i
pub data Linked (N : Nodes) (X : Edges) (sat : List ℕ) (i : ℕ) (n : Node) (a : Role) (r : ℕ) (c : Choice) : Type 0 where
  goal-first : is_done (nodes_of N) (edges_of X) i (goal_edge n r) ≡ false → c ≡ C.Edge (goal_edge n r) → Linked N X sat i n a r c
  goal-done : is_done (nodes_of N) (edges_of X) i (goal_edge n r) ≡ true → (monitors : List ℕ) → Monitoring X i X.count monitors
      → c ≡ or_else (folded X.count (offer (is_done (nodes_of N) (edges_of X) i) (is_solved N X monitors sat r) (solved_edge N X n a)) C.Nothing)
      (mark_if (any (is_complete_at N X i) (up_to X.count (λ j. j))))
      → Linked N X sat i n a r c

pub goal-edge : {N : Nodes} {X : Edges} {sat : List ℕ} {i : ℕ} {n : Node} {a : Role} {r : ℕ} {w : Candidate} {b : Bool} → w ≡ goal_edge n r
    → b ≡ is_done (nodes_of N) (edges_of X) i w → not b ≡ true → Linked N X sat i n a r (C.Edge w)
goal-edge {N} {X} {i = i} {b = b} e p h = goal-first (sym (ap (is_done (nodes_of N) (edges_of X) i) e) ∙ (sym p ∙ not-true b h)) (ap C.Edge e)

pub goal-stands : (N : Nodes) (X : Edges) (i : ℕ) (n : Node) {r : ℕ} {w : Candidate} {b : Bool} → w ≡ goal_edge n r
    → b ≡ is_done (nodes_of N) (edges_of X) i w → not b ≡ false → is_done (nodes_of N) (edges_of X) i (goal_edge n r) ≡ true
goal-stands N X i n {b = b} e p h = sym (ap (is_done (nodes_of N) (edges_of X) i) e) ∙ (sym p ∙ not-false b h)

pub link-parts : {best mark c : Choice} {m : Bool} {x : Choice} {z : Bool} → best ≡ x → m ≡ z → mark ≡ mark_if m → c ≡ or_else best mark → c ≡ or_else x (mark_if z)
link-parts {x = x} p q r s = s ∙ ((λ t. or_else (p t) (r t)) ∙ ap (λ (b : Bool). or_else x (mark_if b)) q)

-- it is what the rules give
pub linked-rules : (o : End) (N : Nodes) (X : Edges) → o.state.nodes ≡ nodes_of N → o.state.edges ≡ edges_of X → EdgesFormed (nodes_of N) (edges_of X)
    → N.count ≤ MOST-NODES
    → {sat failed : List ℕ} → StateColumns (nodes_of N) (edges_of X) sat failed → {i : ℕ} {n : Node} {a : Role} {r : ℕ} {c : Choice}
    → Linked N X sat i n a r c → c ≡ chosen_in (is_done (nodes_of N) (edges_of X) i) (link_rules o i n a r)
unfolding chosen_in first_not
linked-rules o N X ne ee F few S {i} {n} {a} {r} (goal-first h e) =
    e ∙ sym (ap (λ (b : Bool). cond b (first_not (is_done (nodes_of N) (edges_of X) i) (mark_if (link_rules o i n a r).marks)
    (ordered (map (link_edge n a) (solutions_of o r i)))) (C.Edge (goal_edge n r))) h)
linked-rules o N X ne ee F few S {i} {n} {a} {r} {c} (goal-done h monitors M e) =
    let d : Candidate → Bool = is_done (nodes_of N) (edges_of X) i in
    let rest : Choice = first_not d (mark_if (link_rules o i n a r).marks) (ordered (map (link_edge n a) (solutions_of o r i))) in
    e ∙ ((λ t. or_else (links-first o N X ne ee F few M S r n a d refl t) (mark_if (any-complete o N X ne ee i t)))
    ∙ (sym (first_rest d (mark_if (link_rules o i n a r).marks) (ordered (map (link_edge n a) (solutions_of o r i))))
    ∙ sym (ap (λ (b : Bool). cond b rest (C.Edge (goal_edge n r))) h)))
