use Rattle.graph.specs.laws.Graph.{nodes_from}
use Rattle.relation.specs.laws.Reached.{all-on}
use Rattle.justification.specs.laws.Inside.{inside-more}
use Rattle.justification.specs.laws.ImpliedLaws.{implied-nodes}
use Rattle.justification.proofs.implied.edges_implied.Goals as goal

pub nodes_implied-requires : goal.nodes_implied-requires
nodes_implied-requires c = (
  c.requires.0,
  c.requires.3,
  c.requires.1,
  inside-more c.requires.0 c.requires.3,
  c.requires.2,
  c.rules_of-rules.ensures,
  c.relation-mem.ensures _ c.rules_of-rules.ensures,
  c.children-used.ensures,
)

pub returns : goal.returns
returns c = λ o. implied-nodes _ (nodes_from c.args.nodes.now.count c.args.nodes.now.kind c.args.nodes.now.number o.subject o.verifier
    o.state) _ c.requires.3 (all-on c.args.shown.now c.requires.2) c.nodes_implied.ensures
