-- A legal command keeps the graph of a negotiation undamaged: a credential shown, an edge between old nodes, a mark. Assumes nothing.
use Prim.Native.Nat.{ℕ, suc, ◌<◌}
use Rattle.std.proofs.Common.{arith, ◌∙◌, ⊎_elim, length-set}
use Rattle.std.specs.Prelude.{◌≡◌, refl, false, ◌&&◌, ◌||◌, eqb, length, set}
use Rattle.std.proofs.Math.Path.{sym, ap}
use Rattle.std.proofs.Math.Bool.{Bool, true, not, cond}
use mathlib.Core.List.Memᴰ
use mathlib.Core.List.{List, [], ◌∷◌, ◌++◌}
use borrow.Author.Tests.{ne_eqb, eq-eqb, eqb-true, leb-false, not-false}
use Rattle.expression.specs.declared.Credential.{Credential}
use Rattle.expression.specs.Credential.{well_formed_credential}
use Rattle.word.specs.laws.Bools.{and_parts, and_both, or_cases, or_left, or_right, or-neither}
use Rattle.rt0.proofs.laws.Laws.{from?-grows}
use Rattle.class.specs.declared.Name.{Name}
use Rattle.class.specs.Typing.{credential_number}
use Rattle.graph.specs.declared.Node.{Node}
use Rattle.graph.specs.declared.Edge.{Edge}
use Rattle.graph.specs.Graph.{node_in, blank, in_state}
use Rattle.graph.specs.Form.{legal_state}
use Rattle.graph.specs.Find.{has_edge}
use Rattle.graph.specs.Growth.{Grown}
use Rattle.graph.specs.laws.Steps.{grown-mark}
use Rattle.justification.specs.InTurn.{in_turn}
use Rattle.justification.specs.Justified.{implied, implied_if, monitored_if, justified}
use Rattle.message.specs.declared.Command.TheVariants.{Show, Join, Mark}
use Rattle.message.specs.Command.{formed_command}
use Rattle.negotiation.specs.declared.Header.{Header}
use Rattle.negotiation.specs.State.{State, with_edge, with_shown, with_mark}
use Rattle.damage.specs.Records.{node_fits, primary_sound, credential_sound, credential_fits}
use Rattle.rt0.specs.Shown.{is_shown}
use Rattle.damage.specs.Edges.{brought_from, brought, formed, edge_fits, all_brought}
use Rattle.damage.specs.laws.Edges.{brought-more}
use Rattle.damage.specs.Damage.{records_sound, edges_justified}
use Rattle.damage.specs.laws.Damage.{sound-legal, fits-sound}
use Rattle.graph.specs.Processed.{marked_state}
use Rattle.applied.specs.Step.{stepped}
use Rattle.legal.specs.Number.{is_fresh, is_absent, formed_as, show_number, join_wrong, join_number, mark_number, justified_in, legal_by, legal_number}
use Rattle.legal.specs.laws.Number.{refuse-none, first-none}
use Rattle.legal.specs.laws.Growth.{Each, Ends, turn_last, turn_more, turn_at, fits-of, edges-ends, all_fit, all-justified}
use Rattle.legal.specs.laws.Marked.{marked-legal, marked-gains, turn-marked}

-- the graph of a negotiation that is not damaged, whatever its count and end
pub record GraphKept (ns : List Name) (S : State) : Type 0 where
  pub records : records_sound ns S ≡ true
  pub edges : all_brought S.header S.nodes S.edges ≡ true
  pub justified : edges_justified S ≡ true

-- a node that is not absent stands
pub present : (S : State) (i : ℕ) → is_absent S i ≡ false → i < length S.nodes
unfolding is_absent
present S i h = leb-false (length S.nodes) i h

-- What an undamaged graph has

module _ (ns : List Name) (S : State) where
  pub record-parts : records_sound ns S ≡ true → (in_turn (node_fits ns) [] S.nodes ≡ true) × (primary_sound S.header (node_in S.nodes 0) ≡ true)
      × (in_turn (credential_fits ns) [] S.shown ≡ true)
  unfolding records_sound
  record-parts h =
      let p = and_parts (in_turn (node_fits ns) [] S.nodes && primary_sound S.header (node_in S.nodes 0)) (in_turn (credential_fits ns) [] S.shown) h in
      let q = and_parts (in_turn (node_fits ns) [] S.nodes) (primary_sound S.header (node_in S.nodes 0)) p.0 in
      (q.0, q.1, p.1)

  pub records-of : in_turn (node_fits ns) [] S.nodes ≡ true → primary_sound S.header (node_in S.nodes 0) ≡ true
      → in_turn (credential_fits ns) [] S.shown ≡ true → records_sound ns S ≡ true
  unfolding records_sound
  records-of a b c =
      and_both (in_turn (node_fits ns) [] S.nodes && primary_sound S.header (node_in S.nodes 0)) (in_turn (credential_fits ns) [] S.shown)
      (and_both (in_turn (node_fits ns) [] S.nodes) (primary_sound S.header (node_in S.nodes 0)) a b) c

module _ (h : Header) (xs : List Node) (es : List Edge) where
  pub brought-parts : all_brought h xs es ≡ true → (in_turn (edge_fits h xs) [] es ≡ true) × (brought es ≡ length xs)
  unfolding all_brought
  brought-parts k = let p = and_parts (in_turn (edge_fits h xs) [] es) (eqb (brought es) (length xs)) k in (p.0, eqb-true (brought es) (length xs) p.1)

  pub brought-of : in_turn (edge_fits h xs) [] es ≡ true → brought es ≡ length xs → all_brought h xs es ≡ true
  unfolding all_brought
  brought-of a b = and_both (in_turn (edge_fits h xs) [] es) (eqb (brought es) (length xs)) a (eq-eqb (brought es) (length xs) b)

  -- every edge joins nodes
  pub all-ends : all_brought h xs es ≡ true → (length xs ≡ 0 → ⊥) → Each (Ends (length xs)) es
  unfolding brought brought_from
  all-ends k some = edges-ends h xs [] es (omega (arith, some)) (brought-parts k).0

-- 0x01

-- more credentials prove more
implied-more : (cs : List Credential) (c : Credential) (xs : List Node) (e : Edge) → implied_if cs xs e ≡ true → implied_if (cs ++ (c ∷ [])) xs e ≡ true
unfolding implied_if implied
implied-more cs c xs e h =
    ⊎_elim (λ z. or_left (not (eqb e.kind 1)) (implied (cs ++ (c ∷ [])) xs e) z)
    (λ z. or_right (not (eqb e.kind 1)) (implied (cs ++ (c ∷ [])) xs e)
    (from?-grows cs (c ∷ []) (node_in xs e.parent).expression (node_in xs e.child).expression z))
    (or_cases (not (eqb e.kind 1)) (implied cs xs e) h)

justified-more : (cs : List Credential) (c : Credential) (xs : List Node) (b : List Edge) (e : Edge) → justified cs xs b e ≡ true
    → justified (cs ++ (c ∷ [])) xs b e ≡ true
unfolding justified
justified-more cs c xs b e h =
    let p = and_parts (implied_if cs xs e) (monitored_if xs b e) h in
    and_both (implied_if (cs ++ (c ∷ [])) xs e) (monitored_if xs b e) (implied-more cs c xs e p.0) p.1

module _ (ns : List Name) (s : ℕ) (S : State) (c : Credential) where
  show-fits : formed_command (Show c) ≡ true → legal_number ns s S (Show c) ≡ 0 → credential_fits ns S.shown c ≡ true
  unfolding formed_command legal_number legal_by show_number credential_fits credential_sound
  show-fits f l =
      let p = first-none (credential_number ns c) _ l in
      let q = refuse-none (is_fresh S) 23 _ (omega arith) p.1 in
      let r = refuse-none (is_shown S.shown c) 25 _ (omega arith) q.1 in
      and_both (credential_sound ns c) (not (is_shown S.shown c))
      (and_both (well_formed_credential c) (eqb (credential_number ns c) 0) f (eq-eqb (credential_number ns c) 0 p.0)) (ap not r.0)

  pub show-kept : GraphKept ns S → formed_command (Show c) ≡ true → legal_number ns s S (Show c) ≡ 0 → GraphKept ns (stepped S s (Show c))
  unfolding stepped with_shown edges_justified
  show-kept g f l =
      let p = record-parts ns S g.records in
      record {
        records = records-of ns (with_shown S c) p.0 p.1 (turn_last (credential_fits ns) [] S.shown c p.2 (show-fits f l));
        edges = g.edges;
        justified =
            turn_more (λ e. e ≡ e) (justified S.shown S.nodes) (justified (S.shown ++ (c ∷ [])) S.nodes)
            (λ b e u v h. justified-more S.shown c S.nodes b e h) [] S.edges (λ e m. refl) (λ e m. refl) g.justified;
      }

-- 0x04

module _ (ns : List Name) (s : ℕ) (S : State) (e : Edge) where
  -- what a legal edge between old nodes has
  join-parts : legal_number ns s S (Join e) ≡ 0
      → (e.parent < length S.nodes) × (e.child < length S.nodes) × (formed S.header S.nodes e ≡ true)
      × (eqb e.parent e.child ≡ false) × (has_edge S.edges e ≡ false) × (justified S.shown S.nodes S.edges e ≡ true)
  unfolding legal_number legal_by justified_in join_number join_wrong formed formed_as
  join-parts l =
      let a = refuse-none (is_fresh S) 23 _ (omega arith) l in
      let b = refuse-none (is_absent S e.parent || is_absent S e.child) 24 _ (omega arith) a.1 in
      let k = or-neither (is_absent S e.parent) (is_absent S e.child) b.0 in
      let c = refuse-none (join_wrong S e) 25 _ (omega arith) b.1 in
      let d = refuse-none (not (justified S.shown S.nodes S.edges e)) 26 _ (omega arith) c.1 in
      let f : Bool = formed_as S.header e.kind (node_in S.nodes e.parent) (node_in S.nodes e.child) in
      let y = or-neither (not f) (eqb e.parent e.child || has_edge S.edges e) c.0 in
      let z = or-neither (eqb e.parent e.child) (has_edge S.edges e) y.1 in (
        present S e.parent k.0,
        present S e.child k.1,
        not-false f y.0,
        z.0,
        z.1,
        not-false
            (justified S.shown S.nodes S.edges e) d.0,
      )

  pub join_kept : GraphKept ns S → legal_number ns s S (Join e) ≡ 0 → GraphKept ns (stepped S s (Join e))
  unfolding stepped with_edge edges_justified brought
  join_kept g l =
      let p = join-parts l in
      let r = record-parts ns S g.records in
      let q = brought-parts S.header S.nodes S.edges g.edges in
      let b : ℕ = brought S.edges in
      let fits : edge_fits S.header S.nodes S.edges e
      ≡ true = fits-of S.header S.nodes S.edges e (omega (arith, p.0, q.1)) (omega (arith, p.1, q.1)) p.1 p.3 p.2 p.4 in
      record {
        records = records-of ns (with_edge S e) r.0 r.1 r.2;
        edges = brought-of S.header S.nodes (S.edges ++ (e ∷ [])) (turn_last (edge_fits S.header S.nodes) [] S.edges e q.0 fits)
            (brought-more 1 S.edges e ∙ ap (λ (t : Bool). cond t (suc b) b) (ne_eqb e.child b (λ z. omega (arith, p.1, q.1))) ∙ q.1);
        justified = turn_last (justified S.shown S.nodes) [] S.edges e g.justified p.5;
      }

-- 0x05

module _ (ns : List Name) (s : ℕ) (S : State) (i : ℕ) where
  mark-present : legal_number ns s S (Mark i) ≡ 0 → i < length S.nodes
  unfolding legal_number legal_by mark_number
  mark-present l = present S i (refuse-none (is_absent S i) 24 _ (omega arith) (refuse-none (is_fresh S) 23 _ (omega arith) l).1).0

  pub mark-kept : GraphKept ns S → (length S.nodes ≡ 0 → ⊥) → legal_number ns s S (Mark i) ≡ 0 → GraphKept ns (stepped S s (Mark i))
  unfolding stepped with_mark edges_justified primary_sound
  mark-kept g some l =
      let n : Node = node_in S.nodes i in
      let t : ℕ = marked_state s n in
      let p = record-parts ns S g.records in
      let q = brought-parts S.header S.nodes S.edges g.edges in
      let at-node = turn_at (node_fits ns) blank [] S.nodes p.0 i (mark-present l) in
      let legal : legal_state n.expression n.state ≡ true = sound-legal ns n (fits-sound ns at-node.0 n at-node.1) in
      let grow : (b : List Edge) → Each (Ends (length S.nodes)) b
      → Grown S.nodes b (set S.nodes i (in_state t n)) b = λ b u. grown-mark S.nodes b (λ e m. (u e m).1) i t (marked-gains s n legal) in
      let ends = all-ends S.header S.nodes S.edges g.edges some in
      record {
        records = records-of ns (with_mark S i t) (turn-marked ns [] [] S.nodes i t (λ x v u. refl) (marked-legal s n legal) p.0)
            (ap (primary_sound S.header) ((grow [] (λ e m. absurd (Memᴰ.not-nil m))).same 0 (omega (arith, some))) ∙ p.1) p.2;
        edges =
            brought-of S.header (set S.nodes i (in_state t n)) S.edges (all_fit grow S.edges ends S.header q.0)
            (q.1 ∙ sym (length-set S.nodes i (in_state t n)));
        justified = all-justified grow S.edges ends S.shown g.justified;
      }
