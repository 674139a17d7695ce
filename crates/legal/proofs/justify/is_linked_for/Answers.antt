use Rattle.graph.specs.laws.Graph.{nodes_of, edges_of}
use Rattle.legal.specs.laws.JudgedLaws.{monitored-at}
use Rattle.legal.proofs.justify.is_linked_for.Goals as goal

pub returns : goal.returns
returns c =
    monitored-at (nodes_of c.args.n.now.nodes) (edges_of c.args.n.now.edges) c.args.p c.args.b c.node_in-parent.ensures
    (c.is_monitored_for.ensures c.args.n.now.nodes c.requires.2)
