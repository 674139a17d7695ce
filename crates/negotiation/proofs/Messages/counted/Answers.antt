use native.Mathlib.Omega.{arith}
use Rattle.negotiation.specs.laws.Messages.{within_count, counted-mediator, counted-requester}
use Rattle.negotiation.proofs.Messages.counted.Goals as goal

pub overflow_add-result : goal.overflow_add-result
overflow_add-result c = omega (arith, (within_count _ _ c.requires).0)

pub returns-then-side-eq-MEDIATOR : goal.returns-then-side-eq-MEDIATOR
returns-then-side-eq-MEDIATOR c = counted-mediator _ _ c.if-side-eq-MEDIATOR.true

pub overflow_add-result-2 : goal.overflow_add-result-2
overflow_add-result-2 c = omega (arith, (within_count _ _ c.requires).1)

pub returns : goal.returns
returns c = counted-requester _ _ c.if-side-eq-MEDIATOR.false
