use Rattle.applied.specs.laws.Step.{child-is}
use Rattle.applied.proofs.sides.child_of.Goals as goal

pub returns : goal.returns
returns c = child-is _ _ c.verifier_of.ensures
