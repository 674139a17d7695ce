-- The columns of a negotiation as a state. Assumes nothing.
use Rattle.rt0.specs.laws.Pool.{credentials}
use Rattle.graph.specs.laws.Graph.{nodes_of, edges_of}
use Rattle.negotiation.specs.declared.Negotiation.{Negotiation}
use Rattle.negotiation.specs.State.{State}

unfoldable pub state_of : Negotiation → State
state_of n = record { header = n.header; nodes = nodes_of n.nodes; edges = edges_of n.edges; shown = credentials n.shown }
