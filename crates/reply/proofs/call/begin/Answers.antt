use Rattle.reply.specs.laws.Reply.{begins-none, open-fits, open-room, begins-open}
use Rattle.tables.specs.laws.Tables.{tables_of}
use Rattle.reply.proofs.call.begin.Goals as goal

pub returns-then-n-ne0 : goal.returns-then-n-ne0
returns-then-n-ne0 c = begins-none (tables_of c.args.house.now) c.args.n.now c.args.s.now c.if-n-ne0.true

pub write_command-requires : goal.write_command-requires
write_command-requires c = open-fits (tables_of c.args.house.now) c.args.n.now c.first_open-c.ensures c.args.s.now c.requires.2

pub step-requires : goal.step-requires
step-requires c = (c.requires.1, open-room (tables_of c.args.house.now) c.args.n.now c.first_open-c.ensures c.if-n-ne0.false)

pub returns : goal.returns
returns c =
    begins-open (tables_of c.args.house.now) c.args.n.now c.first_open-c.ensures c.if-n-ne0.false _ c.write_command.ensures c.step.ensures
    c.size_of.ensures
