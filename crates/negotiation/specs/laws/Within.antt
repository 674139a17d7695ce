-- A negotiation within the sizes has few nodes, edges and credentials. Assumes nothing.
use Rattle.std.specs.Prelude.{◌≤◌, ◌≡◌, true, ◌&&◌, leb, length}
use Rattle.std.proofs.Common.{arith, leb-true}
use Rattle.word.specs.laws.Bools.{and_parts}
use Rattle.rt0.specs.laws.Pool.{credentials}
use Rattle.rt0.specs.laws.Added.{count-length}
use Rattle.graph.specs.laws.Graph.{nodes_of, edges_of}
use Rattle.graph.specs.laws.Columns.{nodes-length, edges-length}
use Rattle.negotiation.specs.declared.Negotiation.{Negotiation}
use Rattle.negotiation.specs.laws.State.{state_of}
use Rattle.negotiation.specs.State.{within}
use Rattle.numbers.specs.Sizes.{MOST-NODES, MOST-EDGES, MOST-SHOWN}

pub within-few : (n : Negotiation) → within (state_of n) ≡ true
    → (n.nodes.count ≤ MOST-NODES) × (n.edges.count ≤ MOST-EDGES) × (n.shown.count ≤ MOST-SHOWN)
unfolding within state_of
within-few n h =
    let p = and_parts (leb (length (nodes_of n.nodes)) 128 && leb (length (edges_of n.edges)) 256) (leb (length (credentials n.shown)) 64) h in
    let q = and_parts (leb (length (nodes_of n.nodes)) 128) (leb (length (edges_of n.edges)) 256) p.0 in (
      omega (arith, nodes-length n.nodes, leb-true (length (nodes_of n.nodes)) 128 q.0),
      omega (arith, edges-length n.edges, leb-true (length (edges_of n.edges)) 256 q.1),
      omega (arith, count-length n.shown, leb-true (length (credentials n.shown)) 64 p.1),
    )
