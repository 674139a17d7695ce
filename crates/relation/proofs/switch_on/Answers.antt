use Rattle.relation.specs.laws.QuestionLaws.{switched-one}
use Rattle.relation.proofs.switch_on.Goals as goal

pub returns-clause-switched : goal.returns-clause-switched
returns-clause-switched c = switched-one _ _ _ c.switch_all.ensures.switched
