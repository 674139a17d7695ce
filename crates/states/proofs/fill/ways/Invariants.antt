use Rattle.graph.specs.declared.Nodes.{Nodes}
use Rattle.graph.specs.laws.Graph.{nodes_from}
use Rattle.states.specs.laws.Brings.{way_of}
use Rattle.states.specs.laws.Filled.{NodeColumn}
use Rattle.states.proofs.fill.ways.Given as goal

abbrev pub invariant-loop-i : goal.invariant-loop-i
invariant-loop-i l = (o : Nodes) → NodeColumn (nodes_from l.nodes.count l.nodes.kind o.number o.subject o.verifier l.nodes.state) way_of l.i l.r
