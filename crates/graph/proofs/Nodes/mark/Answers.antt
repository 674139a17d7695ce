use Rattle.graph.specs.laws.Columns.{mark-node}
use borrow.Author.Rules.{rules}
use Rattle.graph.proofs.Nodes.mark.Goals as goal

pub returns : goal.returns
returns c = mark-node c.args.self.now c.args.i c.args.state (search rules) c.requires.1 c.requires.0
