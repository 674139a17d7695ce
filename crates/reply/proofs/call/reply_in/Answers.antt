use mathlib.Core.Path.{ap}
use mathlib.Core.Bool.{not}
use Rattle.tables.specs.laws.Tables.{tables_of}
use Rattle.negotiation.specs.laws.State.{state_of}
use Rattle.reply.specs.laws.Reply.{turn-of, own-going, own-gives}
use Rattle.reply.proofs.laws.Reply.{begun-ready, begun-gives, replied-ended, replied-turn, in-turn, after-ready, end_fits, end-length, replied-given}
use Rattle.reply.proofs.call.reply_in.Goals as goal

pub returns-then-h-ne0 : goal.returns-then-h-ne0
returns-then-h-ne0 c = replied-ended (tables_of c.args.house) c.args.n.now c.args.s.now _ c.if-h-ne0.true

pub returns-then-not-sends : goal.returns-then-not-sends
returns-then-not-sends c =
    replied-turn (tables_of c.args.house) c.args.n.now c.if-h-ne0.false c.sends.ensures c.args.s.now _ (ap not c.if-not-sends.true)

pub begin-begun-requires : goal.begin-begun-requires
begin-begun-requires c = (c.requires.0, c.requires.3, c.requires.4)

pub prepare-own-requires : goal.prepare-own-requires
prepare-own-requires c = c.requires.0

pub reply_from-r-requires : goal.reply_from-r-requires
reply_from-r-requires c =
    let b = begun-ready (tables_of c.args.house) c.requires.1 (state_of c.args.n.now) c.requires.2 c.requires.3
    (turn-of c.args.n.now (in-turn (tables_of c.args.house) c.args.n.now c.if-h-ne0.false c.sends.ensures (ap not c.if-not-sends.false)))
    c.begin-begun.new.n c.begin-begun.result c.begin-begun.ensures c.requires.4 in
    (c.prepare-own.ensures.prepared, own-going c.prepare-own.ensures.same (state_of c.begin-begun.new.n) b.0, b.1, b.2)

pub after_message-requires : goal.after_message-requires
after_message-requires c =
    after-ready (tables_of c.args.house) c.args.n.now c.if-h-ne0.false c.sends.ensures (ap not c.if-not-sends.false) c.requires.1
    c.requires.2 c.requires.3 _ _ (begun-gives (tables_of c.args.house) c.requires.1 (state_of c.args.n.now) c.requires.2 c.requires.3
    (turn-of c.args.n.now (in-turn (tables_of c.args.house) c.args.n.now c.if-h-ne0.false c.sends.ensures (ap not c.if-not-sends.false)))
    c.begin-begun.new.n c.begin-begun.result c.begin-begun.ensures c.requires.4 c.reply_from-r.new.n c.reply_from-r.result
    (own-gives c.prepare-own.ensures.same (state_of c.begin-begun.new.n) c.begin-begun.result c.reply_from-r.new.n c.reply_from-r.result
    c.reply_from-r.ensures))

pub write_command-requires : goal.write_command-requires
write_command-requires c =
    end_fits (tables_of c.args.house) c.args.n.now c.if-h-ne0.false c.sends.ensures (ap not c.if-not-sends.false) c.requires.1 c.requires.2
    c.requires.3 _ _ (begun-gives (tables_of c.args.house) c.requires.1 (state_of c.args.n.now) c.requires.2 c.requires.3
    (turn-of c.args.n.now (in-turn (tables_of c.args.house) c.args.n.now c.if-h-ne0.false c.sends.ensures (ap not c.if-not-sends.false)))
    c.begin-begun.new.n c.begin-begun.result c.begin-begun.ensures c.requires.4 c.reply_from-r.new.n c.reply_from-r.result
    (own-gives c.prepare-own.ensures.same (state_of c.begin-begun.new.n) c.begin-begun.result c.reply_from-r.new.n c.reply_from-r.result
    c.reply_from-r.ensures)) c.requires.4

pub shape_of-s : goal.shape_of-s
shape_of-s c =
    end-length (tables_of c.args.house) c.args.n.now c.if-h-ne0.false c.sends.ensures (ap not c.if-not-sends.false) c.requires.1
    c.requires.2 c.requires.3 _ _ (begun-gives (tables_of c.args.house) c.requires.1 (state_of c.args.n.now) c.requires.2 c.requires.3
    (turn-of c.args.n.now (in-turn (tables_of c.args.house) c.args.n.now c.if-h-ne0.false c.sends.ensures (ap not c.if-not-sends.false)))
    c.begin-begun.new.n c.begin-begun.result c.begin-begun.ensures c.requires.4 c.reply_from-r.new.n c.reply_from-r.result
    (own-gives c.prepare-own.ensures.same (state_of c.begin-begun.new.n) c.begin-begun.result c.reply_from-r.new.n c.reply_from-r.result
    c.reply_from-r.ensures)) c.requires.4 c.write_command.ensures

pub returns : goal.returns
returns c =
    replied-given (tables_of c.args.house) c.args.n.now c.if-h-ne0.false c.sends.ensures (ap not c.if-not-sends.false) c.requires.1
    c.requires.2 c.requires.3 _ _ (begun-gives (tables_of c.args.house) c.requires.1 (state_of c.args.n.now) c.requires.2 c.requires.3
    (turn-of c.args.n.now (in-turn (tables_of c.args.house) c.args.n.now c.if-h-ne0.false c.sends.ensures (ap not c.if-not-sends.false)))
    c.begin-begun.new.n c.begin-begun.result c.begin-begun.ensures c.requires.4 c.reply_from-r.new.n c.reply_from-r.result
    (own-gives c.prepare-own.ensures.same (state_of c.begin-begun.new.n) c.begin-begun.result c.reply_from-r.new.n c.reply_from-r.result
    c.reply_from-r.ensures)) c.requires.4 _ c.after_message.ensures c.write_command.ensures
