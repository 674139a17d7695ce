use Rattle.applied.specs.laws.KeepsStates.{keeps-for, show-keeps, open-keeps, end-keeps}
use Rattle.applied.proofs.keeps.keeps_states.Goals as goal

pub returns-in-Show : goal.returns-in-Show
returns-in-Show c = keeps-for _ _ _ _ c.in-Show.is (show-keeps _ _ _)

pub returns-in-Open : goal.returns-in-Open
returns-in-Open c = keeps-for _ _ _ _ c.in-Open.is (open-keeps _ _ _)

pub returns-in-Bring : goal.returns-in-Bring
returns-in-Bring c = keeps-for _ _ _ _ c.in-Bring.is (c.bring_keeps.ensures _)

pub returns-in-Join : goal.returns-in-Join
returns-in-Join c = keeps-for _ _ _ _ c.in-Join.is c.join_keeps.ensures

pub returns-in-Mark : goal.returns-in-Mark
returns-in-Mark c = keeps-for _ _ _ _ c.in-Mark.is (c.mark_keeps.ensures _)

pub returns-in-End : goal.returns-in-End
returns-in-End c = keeps-for _ _ _ _ c.in-End.is (end-keeps _ _)
