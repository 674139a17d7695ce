-- What the code of the rules relies on. Assumes nothing.
use Rattle.std.specs.Prelude.{◌≤◌, ◌≡◌, true}
use Rattle.graph.specs.laws.Graph.{nodes_of, edges_of}
use Rattle.states.specs.laws.Brings.{EdgesFormed}
use Rattle.states.specs.declared.NodeStates.{NodeStates}
use Rattle.states.specs.laws.Complete.{StateColumns}
use Rattle.justification.specs.laws.Justified.{Says}
use Rattle.negotiation.specs.declared.Negotiation.{Negotiation}
use Rattle.negotiation.specs.laws.State.{state_of}
use Rattle.negotiation.specs.State.{within}
use Rattle.negotiation.specs.laws.Within.{within-few}
use Rattle.moves.specs.declared.Preparation.{Preparation}
use Rattle.moves.specs.laws.Own.{Prepared}
use Rattle.numbers.specs.Sizes.{MOST-NODES, MOST-EDGES}

-- the columns are those of the house and of the graph
pub record Ready (o : Preparation) (n : Negotiation) (s : NodeStates) : Type 0 where
  pub prepared : Prepared o
  pub nodes : n.nodes.count ≤ MOST-NODES
  pub edges : n.edges.count ≤ MOST-EDGES
  pub formed : EdgesFormed (nodes_of n.nodes) (edges_of n.edges)
  pub settled : StateColumns (nodes_of n.nodes) (edges_of n.edges) s.satisfied s.failed

pub ready-says : {o : Preparation} {n : Negotiation} {s : NodeStates} → Ready o n s → Says (nodes_of n.nodes) (edges_of n.edges) s.satisfied
ready-says R = record { says = R.settled.is-sat }

pub ready_of : {o : Preparation} {n : Negotiation} {s : NodeStates} → Prepared o → within (state_of n) ≡ true
    → EdgesFormed (nodes_of n.nodes) (edges_of n.edges) → StateColumns (nodes_of n.nodes) (edges_of n.edges) s.satisfied s.failed → Ready o n s
ready_of {n = n} p w f t = let l = within-few n w in record { prepared = p; nodes = l.0; edges = l.1; formed = f; settled = t }
