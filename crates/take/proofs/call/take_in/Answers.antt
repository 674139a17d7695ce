use mathlib.Core.Path.{ap}
use mathlib.Core.Bool.{not}
use Rattle.std.proofs.lemmas.Result.{err_from_is_err_and}
use Rattle.take.specs.laws.Take.{taken-ended, taken-turn, taken_refused, taken-after, after-room, led-ready, start-formed}
use Rattle.take.proofs.call.take_in.Goals as goal

pub returns-then-h-ne0-clause-taken : goal.returns-then-h-ne0-clause-taken
returns-then-h-ne0-clause-taken c = taken-ended c.args.message.now c.args.house.now c.args.n.now _ c.if-h-ne0.true

pub returns-then-not-sends-clause-taken : goal.returns-then-not-sends-clause-taken
returns-then-not-sends-clause-taken c =
    taken-turn c.args.message.now c.args.house.now c.args.n.now c.if-h-ne0.false c.other_side-sender.ensures c.sends.ensures _
    (ap not c.if-not-sends.true)

pub take_commands-requires : goal.take_commands-requires
take_commands-requires c = (c.requires.0.names, c.requires.0.ascending, c.requires.2, start-formed _ _ c.requires.2 c.requires.3)

pub returns-in_err-moved-clause-taken : goal.returns-in_err-moved-clause-taken
returns-in_err-moved-clause-taken c =
    let p = err_from_is_err_and c.from_residual.result c.from_residual.ensures.1 in
    rw (p.1, p.2) (taken_refused c.args.message.now c.args.house.now c.args.n.now c.if-h-ne0.false c.other_side-sender.ensures c.sends.ensures
    (ap not c.if-not-sends.false) _ _ c.take_commands.ensures.taken c.in_err-moved.was)

pub after_message-requires : goal.after_message-requires
after_message-requires c =
    led-ready c.args.message.now c.args.house.now c.args.n.now c.if-h-ne0.false c.other_side-sender.ensures c.sends.ensures
    (ap not c.if-not-sends.false) _ _ c.take_commands.ensures.taken c.in_ok-moved.was c.requires.3 c.requires.2 c.requires.1
    c.in_ok-moved.ensures.sized

pub returns : goal.returns
returns c =
    record {
      taken =
          taken-after c.args.message.now c.args.house.now c.args.n.now c.if-h-ne0.false c.other_side-sender.ensures c.sends.ensures
          (ap not c.if-not-sends.false) _ _ c.take_commands.ensures.taken c.in_ok-moved.was _ _ c.after_message.ensures;
      sized =
          after-room c.args.message.now c.args.house.now c.args.n.now c.if-h-ne0.false c.other_side-sender.ensures c.sends.ensures
          (ap not c.if-not-sends.false) _ _ c.take_commands.ensures.taken c.in_ok-moved.was _ c.in_ok-moved.ensures.sized
          c.after_message.ensures;
    }
