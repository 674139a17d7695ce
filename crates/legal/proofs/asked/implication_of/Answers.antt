use Rattle.legal.specs.laws.JudgedLaws.{question-for}
use Rattle.legal.proofs.asked.implication_of.Goals as goal

pub returns-in-Show : goal.returns-in-Show
returns-in-Show c = question-for _ _ _ c.in-Show.is c.no_implication.ensures

pub returns-in-Open : goal.returns-in-Open
returns-in-Open c = question-for _ _ _ c.in-Open.is c.no_implication-in-Open.ensures

pub returns-in-Bring : goal.returns-in-Bring
returns-in-Bring c = question-for _ _ _ c.in-Bring.is c.bring_implication.ensures

pub returns-in-Join : goal.returns-in-Join
returns-in-Join c = question-for _ _ _ c.in-Join.is c.join_implication.ensures

pub returns-in-Mark : goal.returns-in-Mark
returns-in-Mark c = question-for _ _ _ c.in-Mark.is c.no_implication-in-Mark.ensures

pub returns-in-End : goal.returns-in-End
returns-in-End c = question-for _ _ _ c.in-End.is c.no_implication-in-End.ensures
