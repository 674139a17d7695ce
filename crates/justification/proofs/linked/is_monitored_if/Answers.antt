use Rattle.justification.specs.laws.Linked.{other-kind, linking-kind}
use Rattle.justification.proofs.linked.is_monitored_if.Goals as goal

pub returns-then-e-ne-LINKING_IMPLICATION : goal.returns-then-e-ne-LINKING_IMPLICATION
returns-then-e-ne-LINKING_IMPLICATION c = other-kind _ _ _ c.if-e-ne-LINKING_IMPLICATION.true

pub returns : goal.returns
returns c = linking-kind _ _ _ c.if-e-ne-LINKING_IMPLICATION.false c.is_monitored.ensures
