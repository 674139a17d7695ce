-- What holds while we reply: our tables are sound, and so is the graph of the negotiation. Assumes nothing.
use Rattle.std.specs.Prelude.{ℕ, zero, suc, ◌<◌, ◌≤◌, ◌≡◌, refl, true, not, ◌&&◌, eqb, ltb, length, get_or}
use Rattle.std.proofs.Common.{arith}
use mathlib.Core.List.{List, [], ◌∷◌, Memᴰ}
use borrow.Author.Tests.{ltb-true, leb-true, eqb-true, eqb-false, not-true}
use Rattle.std.proofs.Math.Dec.{leb}
use Rattle.expression.specs.Form.{well_formed}
use Rattle.word.specs.laws.Bools.{and_parts}
use Rattle.class.specs.declared.Name.{Name}
use Rattle.class.specs.Typing.{type_of}
use Rattle.tables.specs.Tables.{Tables}
use Rattle.tables.specs.Accepted.{Sound}
use Rattle.graph.specs.declared.Node.{Node}
use Rattle.graph.specs.Graph.{node_in, blank}
use Rattle.graph.specs.laws.Graph.{edge_in}
use Rattle.graph.specs.Form.{legal_state}
use Rattle.states.specs.laws.Brings.{NodesFormed, EdgesFormed}
use Rattle.negotiation.specs.declared.Header.{Header}
use Rattle.negotiation.specs.State.{State, within}
use Rattle.damage.specs.Header.{other_sound, wanted_sound, header_sound}
use Rattle.negotiation.specs.Ends.{entity_of}
use Rattle.damage.specs.Records.{is_typed, node_sound, node_fits}
use Rattle.damage.specs.Edges.{formed, edge_fits}
use Rattle.damage.specs.laws.Damage.{fits-sound}
use Rattle.legal.specs.laws.Growth.{Each, Ends, turn_at, fits-parts}
use Rattle.legal.specs.laws.Kept.{GraphKept, record-parts, brought-parts, all-ends}
use Rattle.legality.specs.laws.Proper.{Proper}
use Rattle.numbers.specs.Sizes.{MOST-NODES, MOST-EDGES, MOST-SHOWN}

-- our tables are sound, and so is the graph of the negotiation, whatever its count and end
pub record Going (T : Tables) (S : State) : Type 0 where
  pub tables : Sound T
  pub header : header_sound T.own S.header ≡ true
  pub graph : GraphKept T.names S
  pub some : length S.nodes ≡ 0 → ⊥
  pub sizes : within S ≡ true

-- What a sound header has

pub record HeaderParts (self : ℕ) (h : Header) : Type 0 where
  pub side : h.side < 2
  pub own : h.own ≡ self
  pub other : h.other ≡ 0 → ⊥
  pub wanted : wanted_sound h.side h.wanted ≡ true

pub header-parts : (own : ℕ) (h : Header) → header_sound own h ≡ true → HeaderParts own h
unfolding header_sound
header-parts own h e =
    let a = and_parts (ltb h.side 2 && eqb h.own own && other_sound h.own h.other) (wanted_sound h.side h.wanted) e in
    let b = and_parts (ltb h.side 2 && eqb h.own own) (other_sound h.own h.other) a.0 in
    let c = and_parts (ltb h.side 2) (eqb h.own own) b.0 in
    let d = and_parts (not (eqb h.other 0)) (not (eqb h.other h.own)) b.1 in
    record {
      side = ltb-true h.side 2 c.0;
      own = eqb-true h.own own c.1;
      other = eqb-false h.other 0
          (not-true (eqb h.other 0) d.0);
      wanted = a.1;
    }

-- What a sound node has

pub record NodeParts (ns : List Name) (n : Node) : Type 0 where
  pub proper : Proper ns n.expression
  pub subject : 0 < n.subject
  pub verifier : n.verifier < 2

pub node-parts : (ns : List Name) (n : Node) → node_sound ns n ≡ true → NodeParts ns n
unfolding node_sound
node-parts ns n h =
    let a = and_parts (well_formed n.expression && ltb 0 n.subject && ltb n.verifier 2 && legal_state n.expression n.state)
    (is_typed (type_of ns n.expression)) h in
    let b = and_parts (well_formed n.expression && ltb 0 n.subject && ltb n.verifier 2) (legal_state n.expression n.state) a.0 in
    let c = and_parts (well_formed n.expression && ltb 0 n.subject) (ltb n.verifier 2) b.0 in
    let d = and_parts (well_formed n.expression) (ltb 0 n.subject) c.0 in
    record { proper = record { typed = a.1; formed = d.0 }; subject = ltb-true 0 n.subject d.1; verifier = ltb-true n.verifier 2 c.1 }

-- an element by its number
get_d-mem : {A : Type 0} (xs : List A) (d : A) (j : ℕ) → j < length xs → Memᴰ (get_or xs j d) xs
get_d-mem [] d j l = absurd (omega (arith, l))
get_d-mem (x ∷ xs) d zero l = Memᴰ.head refl
get_d-mem (x ∷ xs) d (suc j) l = Memᴰ.tail (get_d-mem xs d j (omega (arith, l)))

module _ (T : Tables) (S : State) (g : Going T S) where
  pub going-header : HeaderParts T.own S.header
  going-header = header-parts T.own S.header g.header

  -- a node that stands is sound
  pub going-node : (i : ℕ) → i < length S.nodes → NodeParts T.names (node_in S.nodes i)
  going-node i l =
      let r = turn_at (node_fits T.names) blank [] S.nodes (record-parts T.names S g.graph.records).0 i l in
      node-parts T.names (node_in S.nodes i) (fits-sound T.names r.0 (node_in S.nodes i) r.1)

  -- an edge joins nodes
  pub going-ends : Each (Ends (length S.nodes)) S.edges
  going-ends = all-ends S.header S.nodes S.edges g.graph.edges g.some

  pub going-few : length S.nodes ≤ MOST-NODES
  unfolding within
  going-few =
      let a = and_parts (leb (length S.nodes) MOST-NODES && leb (length S.edges) MOST-EDGES) (leb (length S.shown) MOST-SHOWN) g.sizes in
      leb-true (length S.nodes) MOST-NODES (and_parts (leb (length S.nodes) MOST-NODES) (leb (length S.edges) MOST-EDGES) a.0).0

  pub going-nodes : NodesFormed S.nodes
  going-nodes = record { few = going-few; formed = λ i l. (going-node i l).proper.formed }

  pub going-edges : EdgesFormed S.nodes S.edges
  unfolding formed
  going-edges =
      record {
        parent = λ j l. (going-ends (edge_in S.edges j) (get_d-mem S.edges _ j l)).0;
        child = λ j l. (going-ends (edge_in S.edges j) (get_d-mem S.edges _ j l)).1;
        formed = λ j l.
            let r = turn_at (edge_fits S.header S.nodes) (record { kind = 0; parent = 0; child = 0 }) [] S.edges
            (brought-parts S.header S.nodes S.edges g.graph.edges).0 j l in (
              entity_of S.header (node_in S.nodes (edge_in S.edges j).parent).verifier,
              (fits-parts S.header S.nodes r.0
                  (edge_in S.edges j) r.1).1,
            );
      }
