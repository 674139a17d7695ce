use Rattle.rt0.specs.laws.Find.{Missed}
use Rattle.graph.specs.declared.Nodes.{Nodes}
use Rattle.graph.specs.laws.Graph.{nodes_from, edges_from, nodes_of, edges_of, edge_at}
use Rattle.justification.specs.Justified.{monitors}
use Rattle.justification.specs.laws.Justified.{Says}
use Rattle.justification.proofs.monitors.is_monitored_for.Given as goal

abbrev pub invariant-loop-j : goal.invariant-loop-j
invariant-loop-j l = (o : Nodes) → Says (nodes_of (nodes_from l.nodes.count l.nodes.kind l.nodes.number o.subject o.verifier o.state))
    (edges_of (edges_from l.m l.edges.kind l.edges.parent l.edges.child)) l.sat
    → Missed (monitors (nodes_of (nodes_from l.nodes.count l.nodes.kind l.nodes.number o.subject o.verifier o.state))
    (edges_of (edges_from l.m l.edges.kind l.edges.parent l.edges.child)) l.x l.b l.p) (edge_at l.edges) l.j
