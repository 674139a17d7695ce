-- Damage, test by test. Assumes nothing.
use Prim.Native.Nat.{ℕ, zero, suc, ◌≤◌, ◌<◌}
use Rattle.std.specs.Prelude.{Bool, ◌&&◌, not, ltb, ◌≡◌}
use Rattle.std.proofs.Math.Bool.{cond, true, false}
use mathlib.Core.List.{List, []}
use Rattle.std.proofs.Math.Dec.{eqb}
use Rattle.std.proofs.Math.ListN.{length}
use Rattle.expression.specs.declared.Credential.{Credential}
use Rattle.graph.specs.declared.Node.{Node}
use Rattle.graph.specs.declared.Edge.{Edge}
use Rattle.graph.specs.Graph.{node_in}
use Rattle.graph.specs.Propagated.{propagated_state}
use Rattle.justification.specs.InTurn.{in_turn}
use Rattle.justification.specs.Justified.{justified, implied_if, monitored_if}
use Rattle.class.specs.declared.Name.{Name}
use Rattle.tables.specs.Tables.{Tables}
use Rattle.negotiation.specs.declared.Header.{Header}
use Rattle.negotiation.specs.State.{State, within}
use Rattle.damage.specs.Header.{header_sound, counts_agree, empty_sound, count_sound, end_sound}
use Rattle.negotiation.specs.Ends.{entity_of}
use Rattle.damage.specs.Records.{node_fits, primary_sound, credential_fits, node_sound}
use Rattle.damage.specs.Edges.{all_brought, brought, brought_from, placed, formed, edge_fits}
use native.Mathlib.Omega.{arith}
use Rattle.std.proofs.Math.Path.{refl, ap, subst}
use Rattle.std.proofs.Common.{sym, ◌∙◌}
use borrow.Author.Tests.{eq-eqb, ne_eqb, eqb-true, not-true, not-false}
use Rattle.expression.specs.Form.{well_formed}
use Rattle.rt0.specs.Lists.{all}
use Rattle.word.specs.laws.Bools.{and_parts}
use Rattle.rt0.specs.Pool.{up_to}
use Rattle.rt0.specs.laws.Pool.{credentials, credential_at}
use Rattle.rt0.specs.laws.Added.{length-up_to}
use Rattle.class.specs.laws.Names.{names_of}
use Rattle.graph.specs.declared.Nodes.{Nodes}
use Rattle.graph.specs.declared.Edges.{Edges}
use Rattle.graph.specs.laws.Graph.{nodes_of, edges_of, node_at, edge_at}
use Rattle.graph.specs.laws.Columns.{nodes-length, edges-length, node_in_lem, edge_in_lem}
use Rattle.graph.specs.Form.{form, legal_state}
use Rattle.states.specs.laws.Brings.{NodesFormed, EdgesFormed}
use Rattle.justification.specs.laws.InTurn.{turn-and, turn-all, turn-each}
use Rattle.justification.specs.laws.Inside.{Inside}
use Rattle.tables.specs.declared.House.{House}
use Rattle.tables.specs.laws.Tables.{tables_of}
use Rattle.negotiation.specs.declared.Negotiation.{Negotiation}
use Rattle.negotiation.specs.laws.State.{state_of as state_held}
use Rattle.negotiation.specs.laws.Within.{within-few}
use Rattle.damage.specs.laws.Edges.{fits-placed, placed-inside, brought-more}
use Rattle.damage.specs.Damage.{records_sound, edges_justified, graph_sound, sound}
use Rattle.numbers.specs.Sizes.{MOST-NODES}

-- a state of these parts
abbrev pub state_with : Header → List Node → List Edge → List Credential → State
state_with h ns es cs = record { header = h; nodes = ns; edges = es; shown = cs }

-- What the tests give

-- a sound node has an expression of right form
pub sound-formed : (ns : List Name) (n : Node) → node_sound ns n ≡ true → well_formed n.expression ≡ true
unfolding node_sound
sound-formed ns n h =
    let a = and_parts (well_formed n.expression && ltb 0 n.subject && ltb n.verifier 2 && legal_state n.expression n.state) _ h in
    let b = and_parts (well_formed n.expression && ltb 0 n.subject && ltb n.verifier 2) (legal_state n.expression n.state) a.0 in
    let c = and_parts (well_formed n.expression && ltb 0 n.subject) (ltb n.verifier 2) b.0 in
    (and_parts (well_formed n.expression) (ltb 0 n.subject) c.0).0

-- and is in a legal state
pub sound-legal : (ns : List Name) (n : Node) → node_sound ns n ≡ true → legal_state n.expression n.state ≡ true
unfolding node_sound
sound-legal ns n h =
    (and_parts (well_formed n.expression && ltb 0 n.subject && ltb n.verifier 2) (legal_state n.expression n.state)
    (and_parts (well_formed n.expression && ltb 0 n.subject && ltb n.verifier 2 && legal_state n.expression n.state) _ h).0).1

pub fits-sound : (ns : List Name) (before : List Node) (n : Node) → node_fits ns before n ≡ true → node_sound ns n ≡ true
unfolding node_fits
fits-sound ns before n h = (and_parts (node_sound ns n) _ h).0

pub nodes-formed : (ns : List Name) (N : Nodes) → N.count ≤ MOST-NODES → in_turn (node_fits ns) [] (nodes_of N) ≡ true → NodesFormed (nodes_of N)
unfolding nodes_of
nodes-formed ns N few h =
    record {
      few = omega (arith, nodes-length N);
      formed = λ i l.
          let k : i < N.count = omega (arith, nodes-length N) in
          ap (λ (n : Node). well_formed n.expression) (node_in_lem N i k)
          ∙ sound-formed ns (node_at N i) (fits-sound ns _ (node_at N i) (turn-each (node_fits ns) (node_at N) N.count h i k));
    }

-- edges that fit join nodes by their forms
module _ (h : Header) (N : Nodes) (E : Edges) (some : 0 < N.count) (fit : in_turn (edge_fits h (nodes_of N)) [] (up_to E.count (edge_at E)) ≡ true) where
  each_fits : (j : ℕ) → j < E.count → edge_fits h (nodes_of N) (up_to j (edge_at E)) (edge_at E j) ≡ true
  each_fits j l = turn-each (edge_fits h (nodes_of N)) (edge_at E) E.count fit j l

  -- no more nodes are brought than stand
  brought-few : (j : ℕ) → j ≤ E.count → brought (up_to j (edge_at E)) ≤ N.count
  unfolding brought brought_from
  brought-few zero l = omega arith
  brought-few (suc j) l =
      let few : brought (up_to j (edge_at E)) ≤ N.count = brought-few j (omega arith) in
      let in-side : (edge_at E j).child < N.count = (placed-inside N.count (brought (up_to j (edge_at E))) (edge_at E j) few
      (fits-placed h N (up_to j (edge_at E)) (edge_at E j) refl (each_fits j (omega arith)))).1 in
      subst (λ (b : ℕ). b ≤ N.count) (sym (brought-more 1 (up_to j (edge_at E)) (edge_at E j)))
      (next (brought (up_to j (edge_at E))) few (eqb (edge_at E j).child (brought (up_to j (edge_at E)))) refl in-side)
    where
      next : (b : ℕ) → b ≤ N.count → (t : Bool) → eqb (edge_at E j).child b ≡ t → (edge_at E j).child < N.count → cond t (suc b) b ≤ N.count
      next b few true e k = let z : (edge_at E j).child ≡ b = eqb-true (edge_at E j).child b e in omega arith
      next b few false e k = few

  edge-ends : (j : ℕ) → j < E.count → ((edge_at E j).parent < N.count) × ((edge_at E j).child < N.count)
  edge-ends j l =
      placed-inside N.count (brought (up_to j (edge_at E))) (edge_at E j) (brought-few j (omega arith))
      (fits-placed h N (up_to j (edge_at E)) (edge_at E j) refl (each_fits j l))

  pub edges-inside : Inside N.count E
  edges-inside = record { parent = λ j l. (edge-ends j l).0; child = λ j l. (edge-ends j l).1 }

  pub edges-formed : EdgesFormed (nodes_of N) (edges_of E)
  unfolding edge_fits formed
  edges-formed =
      record {
        parent =
            λ j l. let k : j < E.count = omega (arith, edges-length E) in subst (λ (e : Edge). e.parent < length (nodes_of N)) (sym (edge_in_lem E j k))
            (omega (arith, nodes-length N, (edge-ends j k).0));
        child =
            λ j l. let k : j < E.count = omega (arith, edges-length E) in subst (λ (e : Edge). e.child < length (nodes_of N)) (sym (edge_in_lem E j k))
            (omega (arith, nodes-length N, (edge-ends j k).1));
        formed = λ j l.
            let k : j < E.count = omega (arith, edges-length E) in
            let f = (and_parts (placed (length (nodes_of N)) (brought (up_to j (edge_at E))) (edge_at E j) && formed h (nodes_of N) (edge_at E j)) _
            (each_fits j k)).0 in (
              entity_of h (node_in (nodes_of N) (edge_at E j).parent).verifier,
              ap
                  (λ (e : Edge). form e.kind (entity_of h (node_in (nodes_of N) (edge_at E j).parent).verifier) (node_in (nodes_of N) e.parent)
                  (node_in (nodes_of N) e.child)) (edge_in_lem E j k)
                  ∙ (and_parts (placed (length (nodes_of N)) (brought (up_to j (edge_at E))) (edge_at E j)) (formed h (nodes_of N) (edge_at E j)) f).1,
            );
      }

-- all edges fit
pub brought-fit : (h : Header) (N : Nodes) (E : Edges) {b : Bool} → b ≡ all_brought h (nodes_of N) (edges_of E) → not b ≡ false
    → in_turn (edge_fits h (nodes_of N)) [] (up_to E.count (edge_at E)) ≡ true
unfolding all_brought edges_of
brought-fit h N E {b} e k = (and_parts (in_turn (edge_fits h (nodes_of N)) [] (up_to E.count (edge_at E))) _ (sym e ∙ not-false b k)).0

-- Justification: the two kinds apart

pub justified-parts : (S : State) → (all (implied_if S.shown S.nodes) S.edges && in_turn (monitored_if S.nodes) [] S.edges) ≡ edges_justified S
unfolding edges_justified justified
justified-parts S =
    ap (λ (b : Bool). b && in_turn (monitored_if S.nodes) [] S.edges) (sym (turn-all (implied_if S.shown S.nodes) [] S.edges))
    ∙ sym (turn-and (λ b e. implied_if S.shown S.nodes e) (monitored_if S.nodes) [] S.edges)

module _ (S : State) {a : Bool} (ae : a ≡ all (implied_if S.shown S.nodes) S.edges) where
  pub not-implied : not a ≡ true → false ≡ edges_justified S
  not-implied h = ap (λ (b : Bool). b && in_turn (monitored_if S.nodes) [] S.edges) (sym (not-true a h) ∙ ae) ∙ justified-parts S

  pub both-justified : {b : Bool} → not a ≡ false → b ≡ in_turn (monitored_if S.nodes) [] S.edges → b ≡ edges_justified S
  both-justified {b} h e = (λ i. (sym (not-false a h) ∙ ae) i && e i) ∙ justified-parts S

-- Records

module _ (ns : List Name) (S : State) where
  by-records : (a b c : Bool) → a ≡ in_turn (node_fits ns) [] S.nodes → b ≡ primary_sound S.header (node_in S.nodes 0)
      → c ≡ in_turn (credential_fits ns) [] S.shown → (a && b && c) ≡ records_sound ns S
  unfolding records_sound
  by-records a b c p q r = λ i. p i && q i && r i

  module _ {a : Bool} (ae : a ≡ in_turn (node_fits ns) [] S.nodes) where
    pub records-nodes : not a ≡ true → false ≡ records_sound ns S
    records-nodes h = by-records false _ _ (sym (not-true a h) ∙ ae) refl refl

    module _ (h : not a ≡ false) {P : Node} {b : Bool} (pe : P ≡ node_in S.nodes 0) (be : b ≡ primary_sound S.header P) where
      pub records-primary : not b ≡ true → false ≡ records_sound ns S
      records-primary k = by-records true false _ (sym (not-false a h) ∙ ae) (sym (not-true b k) ∙ be ∙ ap (primary_sound S.header) pe) refl

      pub records-shown : {c : Bool} → not b ≡ false → c ≡ in_turn (credential_fits ns) [] S.shown → c ≡ records_sound ns S
      records-shown {c} k ce = by-records true true c (sym (not-false a h) ∙ ae) (sym (not-false b k) ∙ be ∙ ap (primary_sound S.header) pe) ce

-- nodes of sound records
pub records-formed : (ns : List Name) (N : Nodes) (S : State) {a : Bool} → N.count ≤ MOST-NODES → S.nodes ≡ nodes_of N → a ≡ records_sound ns S
    → not a ≡ false → NodesFormed (nodes_of N)
unfolding records_sound
records-formed ns N S {a} few se ae h =
    nodes-formed ns N few (ap (in_turn (node_fits ns) []) (sym se)
    ∙ (and_parts (in_turn (node_fits ns) [] S.nodes) _
    (and_parts (in_turn (node_fits ns) [] S.nodes && primary_sound S.header (node_in S.nodes 0)) _ (sym ae ∙ not-false a h)).0).0)

-- The graph

module _ (ns : List Name) (S : State) where
  by-graph : (a b c d e : Bool) → a ≡ count_sound S.header.messages → b ≡ records_sound ns S → c ≡ all_brought S.header S.nodes S.edges
      → d ≡ edges_justified S → e ≡ end_sound (propagated_state S.nodes S.edges 0) S.header.end S.header.idle
      → (a && b && c && d && e) ≡ graph_sound ns S
  unfolding graph_sound
  by-graph a b c d e p q r s t = λ i. p i && q i && r i && s i && t i

  module _ {a : Bool} (ae : a ≡ count_sound S.header.messages) where
    pub graph-count : not a ≡ true → false ≡ graph_sound ns S
    graph-count h = by-graph false _ _ _ _ (sym (not-true a h) ∙ ae) refl refl refl refl

    module _ (ah : not a ≡ false) {b : Bool} (be : b ≡ records_sound ns S) where
      pub graph-records : not b ≡ true → false ≡ graph_sound ns S
      graph-records h = by-graph true false _ _ _ (sym (not-false a ah) ∙ ae) (sym (not-true b h) ∙ be) refl refl refl

      module _ (bh : not b ≡ false) {c : Bool} (ce : c ≡ all_brought S.header S.nodes S.edges) where
        pub graph-edges : not c ≡ true → false ≡ graph_sound ns S
        graph-edges h = by-graph true true false _ _ (sym (not-false a ah) ∙ ae) (sym (not-false b bh) ∙ be) (sym (not-true c h) ∙ ce) refl refl

        module _ (ch : not c ≡ false) {d : Bool} (de : d ≡ edges_justified S) where
          pub graph-unjustified : not d ≡ true → false ≡ graph_sound ns S
          graph-unjustified h =
              by-graph true true true false _ (sym (not-false a ah) ∙ ae) (sym (not-false b bh) ∙ be) (sym (not-false c ch) ∙ ce) (sym (not-true d h) ∙ de) refl

          pub graph-end : {p : ℕ} {e : Bool} → not d ≡ false → p ≡ propagated_state S.nodes S.edges 0
              → e ≡ end_sound p S.header.end S.header.idle → e ≡ graph_sound ns S
          graph-end {p} {e} h pe ee =
              by-graph true true true true e (sym (not-false a ah) ∙ ae) (sym (not-false b bh) ∙ be) (sym (not-false c ch) ∙ ce)
              (sym (not-false d h) ∙ de) (ee ∙ ap (λ (k : ℕ). end_sound k S.header.end S.header.idle) pe)

-- The whole

module _ (T : Tables) (S : State) where
  by_whole : (a c b : Bool) → a ≡ header_sound T.own S.header → c ≡ counts_agree S.header.messages → b ≡ eqb (length S.nodes) 0
      → (e : Bool) → e ≡ cond b (empty_sound S.header (length S.edges) (length S.shown)) (graph_sound T.names S) → (a && c && e) ≡ sound T S
  unfolding sound
  by_whole a c b p k q e r =
      λ i. p i && k i && (r ∙ ap (λ (t : Bool). cond t (empty_sound S.header (length S.edges) (length S.shown)) (graph_sound T.names S)) q) i

  module _ {a : Bool} (ae : a ≡ header_sound T.own S.header) where
    pub whole-header : not a ≡ true → false ≡ sound T S
    whole-header h = by_whole false _ (eqb (length S.nodes) 0) (sym (not-true a h) ∙ ae) refl refl _ refl

    module _ (ah : not a ≡ false) {c : Bool} (ce : c ≡ counts_agree S.header.messages) where
      pub whole-counts : not c ≡ true → false ≡ sound T S
      whole-counts h = by_whole true false (eqb (length S.nodes) 0) (sym (not-false a ah) ∙ ae) (sym (not-true c h) ∙ ce) refl _ refl

      module _ (ch : not c ≡ false) {n : ℕ} (ne : n ≡ length S.nodes) where
        pub whole-empty : {m k : ℕ} {b : Bool} → n ≡ 0 → m ≡ length S.edges → k ≡ length S.shown → b ≡ empty_sound S.header m k → b ≡ sound T S
        whole-empty {b} z me ke be =
            by_whole true true true (sym (not-false a ah) ∙ ae) (sym (not-false c ch) ∙ ce) (sym (eq-eqb (length S.nodes) 0 (sym ne ∙ z))) b
            (be ∙ (λ i. empty_sound S.header (me i) (ke i)))

        pub whole-graph : {b : Bool} → (n ≡ 0 → ⊥) → b ≡ graph_sound T.names S → b ≡ sound T S
        whole-graph {b} z be =
            by_whole true true false (sym (not-false a ah) ∙ ae) (sym (not-false c ch) ∙ ce) (sym (ne_eqb (length S.nodes) 0 (λ w. z (ne ∙ w)))) b be

-- a negotiation as it is held, by the tables of a house
module _ (H : House) (G : Negotiation) where
  module _ {a : Bool} (ae : a ≡ header_sound H.own G.header) where
    pub sound-header : not a ≡ true → false ≡ sound (tables_of H) (state_held G)
    unfolding tables_of state_held
    sound-header h = whole-header (tables_of H) (state_held G) ae h

    module _ (ah : not a ≡ false) {c : Bool} (ce : c ≡ counts_agree G.header.messages) where
      pub sound-counts : not c ≡ true → false ≡ sound (tables_of H) (state_held G)
      unfolding tables_of state_held
      sound-counts h = whole-counts (tables_of H) (state_held G) ae ah ce h

      module _ (ch : not c ≡ false) where
        pub sound_empty : {b : Bool} → G.nodes.count ≡ 0 → b ≡ empty_sound G.header G.edges.count G.shown.count
            → b ≡ sound (tables_of H) (state_held G)
        unfolding tables_of state_held credentials
        sound_empty z be =
            whole-empty (tables_of H) (state_held G) ae ah ce ch (sym (nodes-length G.nodes)) z (sym (edges-length G.edges))
            (sym (length-up_to G.shown.count (credential_at G.shown))) be

        pub sound-graph : {b : Bool} → (G.nodes.count ≡ 0 → ⊥)
            → b ≡ graph_sound (names_of H.names) (state_with G.header (nodes_of G.nodes) (edges_of G.edges) (credentials G.shown))
            → b ≡ sound (tables_of H) (state_held G)
        unfolding tables_of state_held
        sound-graph z be = whole-graph (tables_of H) (state_held G) ae ah ce ch (sym (nodes-length G.nodes)) z be

-- What a sound negotiation has

pub sound-parts : (T : Tables) (S : State) → sound T S ≡ true
    → (header_sound T.own S.header ≡ true) × (counts_agree S.header.messages ≡ true)
    × (cond (eqb (length S.nodes) 0) (empty_sound S.header (length S.edges) (length S.shown)) (graph_sound T.names S) ≡ true)
unfolding sound
sound-parts T S h =
    let a = and_parts (header_sound T.own S.header && counts_agree S.header.messages) _ h in
    let b = and_parts (header_sound T.own S.header) (counts_agree S.header.messages) a.0 in
    (b.0, b.1, a.1)

pub graph-parts : (ns : List Name) (S : State) → graph_sound ns S ≡ true
    → (count_sound S.header.messages ≡ true) × (records_sound ns S ≡ true) × (all_brought S.header S.nodes S.edges ≡ true)
    × (edges_justified S ≡ true) × (end_sound (propagated_state S.nodes S.edges 0) S.header.end S.header.idle ≡ true)
unfolding graph_sound
graph-parts ns S h =
    let a = and_parts (count_sound S.header.messages && records_sound ns S && all_brought S.header S.nodes S.edges && edges_justified S) _ h in
    let b = and_parts (count_sound S.header.messages && records_sound ns S && all_brought S.header S.nodes S.edges) (edges_justified S) a.0 in
    let c = and_parts (count_sound S.header.messages && records_sound ns S) (all_brought S.header S.nodes S.edges) b.0 in
    let d = and_parts (count_sound S.header.messages) (records_sound ns S) c.0 in
    (d.0, d.1, c.1, b.1, a.1)

pub sound-some : (T : Tables) (S : State) → sound T S ≡ true → (length S.nodes ≡ 0 → ⊥) → graph_sound T.names S ≡ true
sound-some T S h z =
    sym (ap (λ (b : Bool). cond b (empty_sound S.header (length S.edges) (length S.shown)) (graph_sound T.names S))
    (ne_eqb (length S.nodes) 0 z)) ∙ (sound-parts T S h).2

-- a negotiation as it is held: its nodes and its edges have their forms
module _ (H : House) (G : Negotiation) (w : within (state_held G) ≡ true) (h : sound (tables_of H) (state_held G) ≡ true) (some : 0 < G.nodes.count) where
  pub held-graph : graph_sound (names_of H.names) (state_with G.header (nodes_of G.nodes) (edges_of G.edges) (credentials G.shown)) ≡ true
  unfolding tables_of state_held
  held-graph = sound-some (tables_of H) (state_held G) h (λ z. omega (arith, nodes-length G.nodes))

  -- a node is in a legal state
  pub held-legal : (i : ℕ) → i < G.nodes.count → legal_state (node_at G.nodes i).expression (node_at G.nodes i).state ≡ true
  unfolding nodes_of records_sound
  held-legal i l =
      let r = (graph-parts (names_of H.names) _ held-graph).1 in
      let f = (and_parts (in_turn (node_fits (names_of H.names)) [] (nodes_of G.nodes)) _
      (and_parts (in_turn (node_fits (names_of H.names)) [] (nodes_of G.nodes) && primary_sound G.header (node_in (nodes_of G.nodes) 0)) _ r).0).0 in
      sound-legal (names_of H.names) (node_at G.nodes i)
      (fits-sound (names_of H.names) _ (node_at G.nodes i) (turn-each (node_fits (names_of H.names)) (node_at G.nodes) G.nodes.count f i l))

  pub held-nodes : NodesFormed (nodes_of G.nodes)
  held-nodes = records-formed (names_of H.names) G.nodes _ (within-few G w).0 refl (sym (graph-parts _ _ held-graph).1) refl

  pub held-edges : EdgesFormed (nodes_of G.nodes) (edges_of G.edges)
  held-edges = edges-formed G.header G.nodes G.edges some (brought-fit G.header G.nodes G.edges (sym (graph-parts _ _ held-graph).2) refl)
