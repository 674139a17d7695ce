use Rattle.applied.specs.laws.Step.{verifier-same, verifier-requester, verifier-mediator}
use Rattle.applied.proofs.sides.verifier_of.Goals as goal

pub returns-then-kind-ne-CONTROL : goal.returns-then-kind-ne-CONTROL
returns-then-kind-ne-CONTROL c = verifier-same _ _ c.if-kind-ne-CONTROL.true

pub returns-then-p-eq-MEDIATOR : goal.returns-then-p-eq-MEDIATOR
returns-then-p-eq-MEDIATOR c = verifier-requester _ _ c.if-kind-ne-CONTROL.false c.if-p-eq-MEDIATOR.true

pub returns-else-p-eq-MEDIATOR : goal.returns-else-p-eq-MEDIATOR
returns-else-p-eq-MEDIATOR c = verifier-mediator _ _ c.if-kind-ne-CONTROL.false c.if-p-eq-MEDIATOR.false
