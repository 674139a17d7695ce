use Rattle.negotiation.specs.laws.Within.{within-few}
use native.Mathlib.Omega.{arith}
use Rattle.reply.specs.laws.Outgoing.{room-none, room-left}
use Rattle.reply.proofs.carry.room_for.Goals as goal

pub overflow_add-shown : goal.overflow_add-shown
overflow_add-shown c = omega (arith, (within-few _ c.requires.0).2, c.count_on.ensures.few)

pub returns-then-shown-gt-SHOWN : goal.returns-then-shown-gt-SHOWN
returns-then-shown-gt-SHOWN c = room-none c.args.n.now c.args.out.now c.requires.0 c.count_on.ensures.counted c.if-shown-gt-SHOWN.true

pub returns : goal.returns
returns c = room-left c.args.n.now c.args.out.now c.requires.0 c.count_on.ensures.counted c.if-shown-gt-SHOWN.false c.has_room.ensures
