use Rattle.applied.specs.laws.Step.{step-open}
use Rattle.applied.proofs.open.Goals as goal

pub returns : goal.returns
returns c side = step-open _ side _ c.primary_of.ensures c.add_node.ensures
