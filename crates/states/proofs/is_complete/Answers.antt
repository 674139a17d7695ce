use Rattle.graph.specs.laws.Graph.{nodes_from}
use Rattle.states.specs.laws.Complete.{complete-read}
use Rattle.states.proofs.is_complete.Goals as goal

pub returns : goal.returns
returns c o columns = let n = c.args.nodes.now in
    complete-read (nodes_from n.count n.kind o.number o.subject o.verifier n.state) c.args.edges.now columns c.args.i c.requires.0 c.complete_by.ensures
    c.has_open-any_open.ensures
