use Rattle.reply.specs.laws.Reply.{first-is}
use Rattle.reply.proofs.call.first_open.Goals as goal

pub returns : goal.returns
returns c = first-is c.args.house.now c.args.wanted c.initial_state.ensures
