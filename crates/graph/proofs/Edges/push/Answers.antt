use Rattle.graph.specs.laws.Columns.{add-edge}
use borrow.Author.Rules.{rules}
use Rattle.graph.proofs.Edges.push.Goals as goal

pub returns : goal.returns
returns c = add-edge c.args.self.now c.args.x (record { kind = search rules; parent = search rules; child = search rules }) c.requires
