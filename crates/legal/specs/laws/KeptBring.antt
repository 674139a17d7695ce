-- An edge with a new child keeps the graph undamaged. Assumes nothing.
use Prim.Native.Nat.{ℕ, suc, ◌<◌}
use Rattle.std.proofs.Common.{arith, ◌∙◌, length-append}
use Rattle.std.specs.Prelude.{◌≡◌, refl, true, false, ◌&&◌, eqb}
use Rattle.std.proofs.Math.Path.{sym, ap}
use Rattle.std.proofs.Math.Bool.{Bool, not, cond}
use mathlib.Core.List.{List, [], ◌∷◌, ◌++◌}
use borrow.Author.Tests.{lt-ltb, ne_eqb, eq-eqb, ltb-true, eqb-true, not-false}
use Rattle.std.proofs.Math.Dec.{ltb}
use Rattle.std.proofs.Math.ListN.{length, get_or-append}
use Rattle.std.proofs.Math.Seq.{get_or-append_seam}
use Rattle.expression.specs.Form.{well_formed}
use Rattle.rt0.specs.Lists.{any}
use Rattle.rt0.specs.laws.Lists.{any-find}
use Rattle.word.specs.laws.Bools.{and_parts, and_both, or-neither, not-of}
use Rattle.class.specs.declared.Name.{Name}
use Rattle.class.specs.declared.Typing.{Typing}
use Rattle.class.specs.declared.Typing.TheVariants.{Ill, Any, Class}
use Rattle.class.specs.Typing.{type_of}
use Rattle.graph.specs.declared.Node.{Node}
use Rattle.graph.specs.declared.Edge.{Edge}
use Rattle.graph.specs.Graph.{node_in, blank}
use Rattle.graph.specs.Form.{form, legal_state}
use Rattle.graph.specs.Find.{is_node, same_edge, has_edge}
use Rattle.graph.specs.Growth.{Grown}
use Rattle.graph.specs.laws.Steps.{grown-node}
use Rattle.justification.specs.Justified.{justified}
use Rattle.message.specs.declared.NewEdge.{NewEdge}
use Rattle.message.specs.declared.Command.TheVariants.{Bring}
use Rattle.message.specs.Command.{edge_kind, formed_command}
use Rattle.negotiation.specs.State.{State, with_node, with_edge}
use Rattle.negotiation.specs.Ends.{entity_of}
use Rattle.damage.specs.Records.{is_typed, node_sound, node_fits, primary_sound}
use Rattle.damage.specs.Edges.{brought, formed, edge_fits}
use Rattle.damage.specs.laws.Edges.{brought-more}
use Rattle.damage.specs.Damage.{edges_justified}
use Rattle.damage.specs.laws.Damage.{fits-sound}
use Rattle.applied.specs.Step.{verifier_of, child_of, child_in, edge_in, stepped}
use Rattle.legal.specs.laws.NewChild.{bring-justified}
use Rattle.legal.specs.Number.{is_fresh, is_absent, formed_as, type_number, bring_wrong, justified_for, bring_number, justified_in, legal_by, legal_number}
use Rattle.legal.specs.laws.Growth.{Each, Ends, turn_last, turn_at, fits-of, all_fit, all-justified}
use Rattle.legal.specs.laws.Number.{refuse-none, first-none}
use Rattle.legal.specs.laws.Kept.{GraphKept, present, record-parts, records-of, brought-parts, brought-of, all-ends}

-- an expression that is not refused keeps the class rules
typed : (t : Typing) → type_number t ≡ 0 → is_typed t ≡ true
typed Ill h = absurd (let z : ◌≡◌ {A = ℕ} 5 0 = h in omega arith)
typed Any h = refl
typed (Class a) h = refl

sound-verifier : (ns : List Name) (n : Node) → node_sound ns n ≡ true → n.verifier < 2
unfolding node_sound
sound-verifier ns n h =
    let f : Bool = well_formed n.expression && ltb 0 n.subject in
    let a = and_parts (f && ltb n.verifier 2 && legal_state n.expression n.state) (is_typed (type_of ns n.expression)) h in
    let b = and_parts (f && ltb n.verifier 2) (legal_state n.expression n.state) a.0 in
    ltb-true n.verifier 2 (and_parts f (ltb n.verifier 2) b.0).1

-- the child's verifier is one of the two sides
verifier-few : (k : ℕ) (p : Node) → p.verifier < 2 → verifier_of k p < 2
unfolding verifier_of
verifier-few k p l = go (eqb k 6) (eqb p.verifier 0)
  where
    go : (a b : Bool) → cond a (cond b 1 0) p.verifier < 2
    go true true = omega arith
    go true false = omega arith
    go false b = l

-- an edge into a node that no edge names is not there
new-edge : (es : List Edge) (e : Edge) → Each (Ends e.child) es → has_edge es e ≡ false
unfolding has_edge
new-edge es e h =
    not-of (any (λ d. same_edge d e) es)
    (λ z.
    let r = any-find (λ d. same_edge d e) es z in
    let q = and_parts (eqb r.0.kind e.kind && eqb r.0.parent e.parent) (eqb r.0.child e.child) r.2 in
    omega (arith, eqb-true r.0.child e.child q.1, (h r.0 r.1).1))

module _ (ns : List Name) (s : ℕ) (S : State) (n : NewEdge) where
  -- what a legal edge with a new child has
  bring-parts : legal_number ns s S (Bring n) ≡ 0
      → (is_typed (type_of ns n.expression) ≡ true) × (n.parent < length S.nodes)
      × (formed_as S.header n.kind (node_in S.nodes n.parent) (child_in S n) ≡ true)
      × (any (is_node n.expression (child_in S n).verifier n.subject) S.nodes ≡ false)
      × (justified_for S n.kind n.parent n.expression n.subject ≡ true)
  unfolding legal_number legal_by justified_in bring_number bring_wrong
  bring-parts l =
      let v : ℕ = (child_in S n).verifier in
      let t = first-none (type_number (type_of ns n.expression)) _ l in
      let a = refuse-none (is_fresh S) 23 _ (omega arith) t.1 in
      let b = refuse-none (is_absent S n.parent) 24 _ (omega arith) a.1 in
      let c = refuse-none (bring_wrong S n) 25 _ (omega arith) b.1 in
      let d = refuse-none (not (justified_for S n.kind n.parent n.expression n.subject)) 26 _ (omega arith) c.1 in
      let f : Bool = formed_as S.header n.kind (node_in S.nodes n.parent) (child_in S n) in
      let w = or-neither (not f) (any (is_node n.expression v n.subject) S.nodes) c.0 in (
        typed (type_of ns n.expression) t.0,
        present S n.parent b.0,
        not-false f w.0,
        w.1,
        not-false
            (justified_for S n.kind n.parent n.expression n.subject) d.0,
      )

  child-sound : (node_in S.nodes n.parent).verifier < 2 → formed_command (Bring n) ≡ true → is_typed (type_of ns n.expression) ≡ true
      → node_sound ns (child_in S n) ≡ true
  unfolding formed_command node_sound child_of
  child-sound v f t =
      let p : Node = node_in S.nodes n.parent in
      let w : ℕ = verifier_of n.kind p in
      let x = n.expression in
      let a = and_parts (well_formed x) (edge_kind n.kind && ltb 0 n.subject && legal_state x n.state) f in
      let b = and_parts (edge_kind n.kind && ltb 0 n.subject) (legal_state x n.state) a.1 in
      let c = and_parts (edge_kind n.kind) (ltb 0 n.subject) b.0 in
      and_both (well_formed x && ltb 0 n.subject && ltb w 2 && legal_state x n.state) (is_typed (type_of ns x))
      (and_both (well_formed x && ltb 0 n.subject && ltb w 2) (legal_state x n.state)
      (and_both (well_formed x && ltb 0 n.subject) (ltb w 2) (and_both (well_formed x) (ltb 0 n.subject) a.0 c.1)
      (lt-ltb w 2 (verifier-few n.kind p v))) b.1) t

  module _ (g : GraphKept ns S) (some : length S.nodes ≡ 0 → ⊥) (f : formed_command (Bring n) ≡ true) (l : legal_number ns s S (Bring n) ≡ 0) where
    abbrev after : List Node
    after = S.nodes ++ (child_in S n ∷ [])

    one_more : length after ≡ suc (length S.nodes)
    one_more = omega (arith, length-append S.nodes (child_in S n ∷ []))

    child_fits : node_fits ns S.nodes (child_in S n) ≡ true
    unfolding node_fits child_of
    child_fits =
        let p = bring-parts l in
        let parent = turn_at (node_fits ns) blank [] S.nodes (record-parts ns S g.records).0 n.parent p.1 in
        let v = sound-verifier ns (node_in S.nodes n.parent) (fits-sound ns parent.0 (node_in S.nodes n.parent) parent.1) in
        and_both (node_sound ns (child_in S n)) (not (any (is_node n.expression (child_in S n).verifier n.subject) S.nodes))
        (child-sound v f p.0) (ap not p.3)

    ends : Each (Ends (length S.nodes)) S.edges
    ends = all-ends S.header S.nodes S.edges g.edges some

    grow : (b : List Edge) → Each (Ends (length S.nodes)) b → Grown S.nodes b after b
    grow b u = grown-node S.nodes b (λ e m. (u e m).1) (child_in S n)

    edge-formed : formed S.header after (edge_in S n) ≡ true
    unfolding formed formed_as
    edge-formed =
        let p = bring-parts l in
        let parent : node_in after n.parent ≡ node_in S.nodes n.parent = get_or-append S.nodes (child_in S n ∷ []) blank n.parent p.1 in
        let child : node_in after (length S.nodes) ≡ child_in S n = get_or-append_seam S.nodes (child_in S n) [] blank in
        (λ i. form n.kind (entity_of S.header (parent i).verifier) (parent i) (child i)) ∙ p.2

    edge-fits : edge_fits S.header after S.edges (edge_in S n) ≡ true
    edge-fits =
        let q = (brought-parts S.header S.nodes S.edges g.edges).1 in
        let i = (bring-parts l).1 in
        fits-of S.header after S.edges (edge_in S n) (omega (arith, q, i)) (omega (arith, q)) (omega (arith, one_more))
        (ne_eqb n.parent (length S.nodes) (λ z. omega (arith, i))) edge-formed (new-edge S.edges (edge_in S n) ends)

    -- the edge brings the new child
    child-brought : brought (S.edges ++ (edge_in S n ∷ [])) ≡ length after
    unfolding brought
    child-brought =
        let b : ℕ = brought S.edges in
        let q : b ≡ length S.nodes = (brought-parts S.header S.nodes S.edges g.edges).1 in
        brought-more 1 S.edges (edge_in S n) ∙ ap (λ (t : Bool). cond t (suc b) b) (eq-eqb (length S.nodes) b (sym q)) ∙ ap suc q ∙ sym one_more

    pub bring-kept : GraphKept ns (stepped S s (Bring n))
    unfolding stepped with_edge with_node edges_justified
    bring-kept =
        let p = record-parts ns S g.records in
        let q = brought-parts S.header S.nodes S.edges g.edges in
        record {
          records = records-of ns (with_edge (with_node S (child_in S n)) (edge_in S n)) (turn_last (node_fits ns) [] S.nodes (child_in S n) p.0 child_fits)
              (ap (primary_sound S.header) (get_or-append S.nodes (child_in S n ∷ []) blank 0 (omega (arith, some))) ∙ p.1) p.2;
          edges =
              brought-of S.header after (S.edges ++ (edge_in S n ∷ []))
              (turn_last (edge_fits S.header after) [] S.edges (edge_in S n) (all_fit grow S.edges ends S.header q.0) edge-fits) child-brought;
          justified =
              turn_last (justified S.shown after) [] S.edges (edge_in S n) (all-justified grow S.edges ends S.shown g.justified)
              (sym (bring-justified S n (bring-parts l).1 (λ e m. (ends e m).1)) ∙ (bring-parts l).4);
        }
