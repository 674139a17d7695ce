use Rattle.applied.specs.laws.Step.{room_for, room-show, room_open, room-bring, room-join, room-mark, nodes-few, step-for, step-show, step-join, step_end}
use Rattle.applied.proofs.step.Goals as goal

pub show-requires : goal.show-requires
show-requires c = room-show _ _ (room_for _ _ _ c.in-Show.is c.requires.1)

pub open-requires : goal.open-requires
open-requires c = room_open _ _ (room_for _ _ _ c.in-Open.is c.requires.1)

pub bring-requires : goal.bring-requires
bring-requires c = room-bring _ _ (room_for _ _ _ c.in-Bring.is c.requires.1)

pub add_edge-requires : goal.add_edge-requires
add_edge-requires c = room-join _ _ (room_for _ _ _ c.in-Join.is c.requires.1)

pub mark-requires : goal.mark-requires
mark-requires c = (room-mark _ _ (room_for _ _ _ c.in-Mark.is c.requires.1), nodes-few _ c.requires.0)

pub returns-in-Show : goal.returns-in-Show
returns-in-Show c = step-for _ _ _ _ c.in-Show.is (step-show _ _ _ c.show.ensures)

pub returns-in-Open : goal.returns-in-Open
returns-in-Open c = step-for _ _ _ _ c.in-Open.is (c.open.ensures _)

pub returns-in-Bring : goal.returns-in-Bring
returns-in-Bring c = step-for _ _ _ _ c.in-Bring.is (c.bring.ensures _)

pub returns-in-Join : goal.returns-in-Join
returns-in-Join c = step-for _ _ _ _ c.in-Join.is (step-join _ _ _ c.add_edge.ensures)

pub returns-in-Mark : goal.returns-in-Mark
returns-in-Mark c = step-for _ _ _ _ c.in-Mark.is c.mark.ensures

pub returns-in-End : goal.returns-in-End
returns-in-End c = step-for _ _ _ _ c.in-End.is (step_end _ _)
