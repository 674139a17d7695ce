use Rattle.applied.specs.laws.Step.{primary-is}
use Rattle.applied.proofs.sides.primary_of.Goals as goal

pub returns : goal.returns
returns c = primary-is _ _ c.requester.ensures
