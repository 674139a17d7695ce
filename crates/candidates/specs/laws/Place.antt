-- The node whose edges are sought. Assumes nothing.
use Rattle.std.specs.Prelude.{◌≤◌, Bool}
use Rattle.graph.specs.laws.Graph.{nodes_of, edges_of}
use Rattle.moves.specs.declared.Candidate.{Candidate}
use Rattle.moves.specs.Candidates.{is_done}
use Rattle.candidates.specs.declared.Place.{Place}
use Rattle.numbers.specs.Sizes.{MOST-NODES, MOST-EDGES}

-- its graph has no more nodes and edges than it may have
abbrev pub Bounded : Place → Type 0
Bounded p = (p.negotiation.now.nodes.count ≤ MOST-NODES) × (p.negotiation.now.edges.count ≤ MOST-EDGES)

-- an edge into it is done
abbrev pub done_at : Place → Candidate → Bool
done_at p = is_done (nodes_of p.negotiation.now.nodes) (edges_of p.negotiation.now.edges) p.number
