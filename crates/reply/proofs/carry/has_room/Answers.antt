use Rattle.reply.specs.laws.Outgoing.{room_of, room-of-bring, room-of-mark}
use mathlib.Core.Path.{refl}
use Rattle.reply.proofs.carry.has_room.Goals as goal

pub returns-in-Show : goal.returns-in-Show
returns-in-Show c = room_of _ _ _ _ _ c.in-Show.is refl

pub returns-in-Open : goal.returns-in-Open
returns-in-Open c = room_of _ _ _ _ _ c.in-Open.is refl

pub returns-in-Bring : goal.returns-in-Bring
returns-in-Bring c = room-of-bring _ _ _ _ _ c.in-Bring.is c.wide.ensures

pub returns-in-Join : goal.returns-in-Join
returns-in-Join c = room_of _ _ _ _ _ c.in-Join.is refl

pub returns-in-Mark : goal.returns-in-Mark
returns-in-Mark c = room-of-mark _ _ _ _ _ c.in-Mark.is c.wide-in-Mark.ensures
