use Rattle.negotiation.specs.laws.Layout.{node-written}
use Rattle.negotiation.proofs.encode.write_node.Goals as goal

pub returns : goal.returns
returns c = node-written c.args.buf.now _ _ c.args.at c.args.x c.requires c.write_expression.ensures c.copy_in.ensures
