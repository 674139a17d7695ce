use Rattle.message.specs.laws.Command.{show-written}
use Rattle.message.proofs.encode.write_show.Goals as goal

pub returns : goal.returns
returns c = show-written c.args.s.now _ _ c.args.at c.args.c c.requires c.copy_in.ensures c.write_credential.ensures
