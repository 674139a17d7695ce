use Rattle.message.specs.laws.Command.{bring-written}
use Rattle.message.proofs.encode.write_bring.Goals as goal

pub returns : goal.returns
returns c = bring-written c.args.s.now _ _ _ c.args.at c.args.e c.requires c.copy_in.ensures c.write_expression.ensures c.copy_in-2.ensures
