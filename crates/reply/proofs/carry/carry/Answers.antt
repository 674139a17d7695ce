use Rattle.negotiation.specs.laws.State.{state_of}
use Rattle.reply.specs.laws.Carry.{carry-room, carry-fits, carry-within, carry-step, carry-behind, carry-led}
use Rattle.reply.proofs.carry.carry.Goals as goal

pub show_all-requires : goal.show_all-requires
show_all-requires c = (
  c.requires.1,
  carry-room c.args.n.now.header.side (state_of c.args.n.now) c.args.out.now c.args.s.now c.args.at c.requires.2
      c.requires.3 c.requires.4,
  carry-fits c.args.n.now.header.side (state_of c.args.n.now) c.args.out.now c.args.s.now c.args.at
      c.requires.2 c.requires.3 c.requires.4,
  c.requires.4,
)

pub count_on-requires : goal.count_on-requires
count_on-requires c = c.requires.1

pub write_command-requires : goal.write_command-requires
write_command-requires c =
    carry-behind c.args.n.now.header.side (state_of c.args.n.now) c.args.out.now c.args.s.now c.args.at c.requires.2
    c.requires.3 c.requires.4 c.show_all.ensures.shown c.show_all.ensures.written c.count_on.ensures.counted

pub step-requires : goal.step-requires
step-requires c = (
  carry-within c.args.n.now.header.side (state_of c.args.n.now) c.args.out.now c.args.s.now c.args.at c.requires.2
      c.requires.3 c.requires.4 c.show_all.ensures.shown c.show_all.ensures.written c.requires.0,
  carry-step c.args.n.now.header.side
      (state_of c.args.n.now) c.args.out.now c.args.s.now c.args.at c.requires.2 c.requires.3 c.requires.4
      c.show_all.ensures.shown c.show_all.ensures.written,
)

pub returns : goal.returns
returns c =
    let t = carry-led c.args.n.now.header.side (state_of c.args.n.now) c.args.out.now c.args.s.now c.args.at c.requires.2 c.requires.3
    c.requires.4 c.show_all.ensures.shown c.show_all.ensures.written c.count_on.ensures.counted c.write_command.ensures c.step.ensures in
    record { led = t.0; written = t.1 }
