use Rattle.negotiation.specs.laws.State.{state_of}
use Rattle.reply.specs.laws.Outgoing.{show-off, show-on, show-bytes, show-free}
use Rattle.reply.proofs.carry.show_at.Goals as goal

pub returns-then-flag-ne1 : goal.returns-then-flag-ne1
returns-then-flag-ne1 c =
    let t = show-off c.args.pool.now c.args.k (state_of c.args.n.now) c.args.s.now
    c.args.at c.args.flag c.if-flag-ne1.true in
    record { shown = t.0; written = t.1 }

pub write_command-requires : goal.write_command-requires
write_command-requires c =
    show-bytes c.args.pool.now c.args.k (state_of c.args.n.now) c.args.s.now c.args.at c.args.flag
    c.if-flag-ne1.false c.requires.2

pub show-requires : goal.show-requires
show-requires c = show-free c.args.pool.now c.args.k c.args.n.now c.args.flag c.if-flag-ne1.false c.requires.1

pub returns : goal.returns
returns c =
    let t = show-on c.args.pool.now c.args.k (state_of c.args.n.now) c.args.s.now c.args.at c.args.flag c.if-flag-ne1.false
    c.credential-c.ensures c.write_command.ensures c.show.ensures in
    record { shown = t.0; written = t.1 }
