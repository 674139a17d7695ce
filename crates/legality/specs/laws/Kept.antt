-- Legal updates keep what holds while we reply: so does each move, and the mediator's open begins it. Assumes nothing.
use Rattle.std.specs.Prelude.{ℕ, ◌≡◌, refl, ◌&&◌, eqb}
use Rattle.std.proofs.Common.{arith, ◌∙◌}
use Rattle.std.proofs.Math.Path.{sym, ap}
use Rattle.std.proofs.Math.Bool.{Bool, true, cond}
use mathlib.Core.List.{List, [], ◌∷◌, ◌++◌}
use borrow.Author.Tests.{eq-eqb, lt-ltb}
use Rattle.std.proofs.Math.Dec.{ltb}
use Rattle.std.proofs.Math.ListN.{length, length-append}
use Rattle.expression.specs.declared.Role.{Role}
use Rattle.expression.specs.declared.Expression.{Expression}
use Rattle.expression.specs.declared.Expression.TheVariants as E
use Rattle.expression.specs.Form.{is_role, well_formed}
use Rattle.expression.specs.Same.{same}
use Rattle.expression.specs.laws.Same.{eq-same}
use Rattle.word.specs.laws.Bools.{and_both}
use Rattle.class.specs.declared.Name.{Name}
use Rattle.class.specs.Typing.{type_of}
use Rattle.tables.specs.Tables.{Tables}
use Rattle.tables.specs.Accepted.{Sound}
use Rattle.graph.specs.declared.Node.{Node}
use Rattle.graph.specs.Graph.{node_in}
use Rattle.graph.specs.Form.{legal_state}
use Rattle.justification.specs.InTurn.{in_turn}
use Rattle.justification.specs.Justified.{justified}
use Rattle.message.specs.declared.Opening.{Opening}
use Rattle.message.specs.declared.Command.{Command}
use Rattle.message.specs.declared.Command.TheVariants.{Open}
use Rattle.message.specs.Command.{formed_command}
use Rattle.negotiation.specs.State.{State, within, with_node}
use Rattle.damage.specs.Header.{wanted_sound, header_sound}
use Rattle.negotiation.specs.Ends.{requester}
use Rattle.damage.specs.Records.{is_typed, node_sound, node_fits, primary_sound, credential_fits}
use Rattle.damage.specs.Edges.{brought_from, brought, edge_fits}
use Rattle.damage.specs.Damage.{edges_justified, sound}
use Rattle.damage.specs.laws.Damage.{graph-parts, sound-some}
use Rattle.damage.specs.laws.Going.{by-nodes, no-nodes, empty-parts}
use Rattle.applied.specs.Step.{primary_of, stepped}
use Rattle.legal.specs.Legal.{ClassesSuit, OpenFirst, NodesStand, FormedAndNew, EdgeJustified, Unprocessed, RoomLeft, Legal}
use Rattle.legal.specs.laws.Exact.{legal-exactly}
use Rattle.legal.specs.laws.Kept.{GraphKept, records-of, brought-of}
use Rattle.legal.specs.laws.KeptStep.{step_kept}
use Rattle.legal.specs.laws.Room.{legal-room, step-within}
use Rattle.legal.specs.Updates.{Updates, none, next}
use Rattle.applied.specs.laws.Step.{step-header, step-some}
use Rattle.moves.specs.Initial.{initial_state}
use Rattle.moves.specs.Rules.{end_in}
use Rattle.moves.specs.Move.{next_move}
use Rattle.moves.specs.Carried.{carried, has_room_for}
use Rattle.legality.specs.laws.Proper.{Proper, role-proper}
use Rattle.legality.specs.laws.Going.{Going, HeaderParts, header-parts}
use Rattle.legality.specs.laws.Forms.{initial-legal}
use Rattle.legality.specs.laws.Legal.{move-updates}

-- Commands

-- a legal command
pub step-going : (T : Tables) (s : ℕ) (S : State) (c : Command) → Going T S → formed_command c ≡ true → Legal T.names s S c → Going T (stepped S s c)
step-going T s S c g f l =
    let k = (legal-exactly T.names s S c).1 l in
    record {
      tables = g.tables;
      header = ap (header_sound T.own) (step-header S s c) ∙ g.header;
      graph = step_kept T.names s S c g.graph g.some f k;
      some = step-some S s c g.some;
      sizes = step-within S g.sizes s c (legal-room S T.names s c k);
    }

-- legal commands one after another
pub updates-going : (T : Tables) {s : ℕ} {S U : State} {cs : List Command} → Updates T.names s S cs U → Going T S → Going T U
updates-going T none g = g
updates-going T {s = s} (next {S = S} {c = c} e f l u) g = updates-going T u (step-going T s S c g f l)

-- they leave the header
pub updates-header : {ns : List Name} {s : ℕ} {S U : State} {cs : List Command} → Updates ns s S cs U → U.header ≡ S.header
updates-header none = refl
updates-header {s = s} (next {S = S} {c = c} e f l u) = updates-header u ∙ step-header S s c

-- our next move keeps what holds while we reply
pub move-going : (T : Tables) (S : State) → Going T S → has_room_for S.header.side S (next_move (end_in T S)) ≡ true
    → Going T (carried S.header.side S (next_move (end_in T S)))
move-going T S g room = updates-going T (move-updates T S g room) g

-- The start

module _ (T : Tables) (t : Sound T) (S : State) (h : sound T S ≡ true) (w : within S ≡ true) where
  -- an undamaged negotiation with a node
  pub sound-going : (length S.nodes ≡ 0 → ⊥) → Going T S
  sound-going some =
      let p = graph-parts T.names S (sound-some T S h some) in
      record { tables = t; header = by-nodes T S h; graph = record { records = p.1; edges = p.2; justified = p.3 }; some = some; sizes = w }

  -- the mediator's open
  module _ (side : S.header.side ≡ 0) (fresh : length S.nodes ≡ 0) where
    abbrev opening : Opening
    opening = record { role = S.header.wanted; state = initial_state T.names true (E.Role S.header.wanted) }

    empty-counts : (length S.edges ≡ 0) × (length S.shown ≡ 0)
    empty-counts = let e = empty-parts S.header (length S.edges) (length S.shown) (no-nodes T S h fresh) in (e.2, e.3)

    parts : HeaderParts T.own S.header
    parts = header-parts T.own S.header (by-nodes T S h)

    wanted-role : is_role S.header.wanted ≡ true
    unfolding wanted_sound
    wanted-role = sym (ap (λ (v : ℕ). wanted_sound v S.header.wanted) side) ∙ parts.wanted

    pub open-formed : formed_command (Open opening) ≡ true
    unfolding formed_command
    open-formed =
        and_both (is_role S.header.wanted) (legal_state (E.Role S.header.wanted) opening.state) wanted-role
        (initial-legal T.names true (E.Role S.header.wanted))

    pub open-legal : Legal T.names S.header.side S (Open opening)
    unfolding ClassesSuit OpenFirst NodesStand FormedAndNew EdgeJustified Unprocessed RoomLeft
    open-legal =
        record {
          classes = tt;
          open-first = fresh;
          nodes = tt;
          form = tt;
          justified = tt;
          unprocessed = tt;
          room = tt;
        }

    -- it is a legal update
    pub opening-updates : Updates T.names S.header.side S (Open opening ∷ []) (carried S.header.side S (Open opening ∷ []))
    opening-updates = next {c = Open opening} refl open-formed open-legal none

    abbrev primary : Node
    primary = primary_of S.header opening

    requester-other : requester S.header ≡ S.header.other
    unfolding requester
    requester-other = ap (λ (v : ℕ). cond (eqb v 0) S.header.other S.header.own) side

    primary-node : node_sound T.names primary ≡ true
    unfolding node_sound primary_of
    primary-node =
        let x : Expression = E.Role S.header.wanted in
        let p : Proper T.names x = role-proper T.names S.header.wanted wanted-role in
        let u : ltb 0 (requester S.header) ≡ true = lt-ltb 0 (requester S.header) (omega (arith, requester-other, parts.other)) in
        and_both (well_formed x && ltb 0 (requester S.header) && true && legal_state x opening.state) (is_typed (type_of T.names x))
        (and_both (well_formed x && ltb 0 (requester S.header) && true) (legal_state x opening.state)
        (and_both (well_formed x && ltb 0 (requester S.header)) true (and_both (well_formed x) (ltb 0 (requester S.header)) p.formed u) refl)
        (initial-legal T.names true x))
        p.typed

    -- "The primary's verifier is the mediator, its subject the requester"; the mediator knows its role
    primary-sound : primary_sound S.header primary ≡ true
    unfolding primary_sound primary_of
    primary-sound =
        let b : Bool = same (E.Role S.header.wanted) (E.Role S.header.wanted) in
        and_both (eqb (requester S.header) (requester S.header)) (cond (eqb S.header.side 0) b true)
        (eq-eqb (requester S.header) (requester S.header) refl)
        (ap (λ (v : ℕ). cond (eqb v 0) b true) side ∙ eq-same (E.Role S.header.wanted) (E.Role S.header.wanted) refl)

    no_one : {A : Type 0} (xs : List A) → length xs ≡ 0 → xs ≡ []
    no_one [] z = refl
    no_one (x ∷ xs) z = absurd (omega (arith, z))

    open_kept : GraphKept T.names (stepped S S.header.side (Open opening))
    unfolding stepped with_node edges_justified in_turn node_fits brought brought_from
    open_kept =
        let x : Node = primary in
        let no-nodes : S.nodes ≡ [] = no_one S.nodes fresh in
        let no_edges : S.edges ≡ [] = no_one S.edges empty-counts.0 in
        record {
          records = records-of T.names (with_node S x)
              (ap (λ (xs : List Node). in_turn (node_fits T.names) [] (xs ++ (x ∷ []))) no-nodes
              ∙ and_both (node_sound T.names x && true) true (and_both (node_sound T.names x) true primary-node refl) refl)
              (ap (λ (xs : List Node). primary_sound S.header (node_in (xs ++ (x ∷ [])) 0)) no-nodes ∙ primary-sound)
              (ap (in_turn (credential_fits T.names) []) (no_one S.shown empty-counts.1));
          edges =
              brought-of S.header (S.nodes ++ (x ∷ [])) S.edges (ap (in_turn (edge_fits S.header (S.nodes ++ (x ∷ []))) []) no_edges)
              (ap brought no_edges ∙ ap (λ (xs : List Node). length (xs ++ (x ∷ []))) (sym no-nodes));
          justified = ap (in_turn (justified S.shown (S.nodes ++ (x ∷ []))) []) no_edges;
        }

    opened : length (stepped S S.header.side (Open opening)).nodes ≡ 0 → ⊥
    unfolding stepped with_node
    opened z = omega (arith, z, length-append S.nodes (primary ∷ []))

    -- what holds while we reply begins with it
    pub opening-going : Going T (carried S.header.side S (Open opening ∷ []))
    opening-going =
        let s : ℕ = S.header.side in
        record {
          tables = t;
          header = ap (header_sound T.own) (step-header S s (Open opening)) ∙ by-nodes T S h;
          graph = open_kept;
          some = opened;
          sizes = step-within S w s (Open opening) (legal-room S T.names s (Open opening) ((legal-exactly T.names s S (Open opening)).1 open-legal));
        }
