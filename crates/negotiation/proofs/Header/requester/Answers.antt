use Rattle.negotiation.specs.laws.Ends.{requester-mediator, requester-self}
use Rattle.negotiation.proofs.Header.requester.Goals as goal

pub returns-then-self-eq-MEDIATOR : goal.returns-then-self-eq-MEDIATOR
returns-then-self-eq-MEDIATOR c = requester-mediator _ c.if-self-eq-MEDIATOR.true

pub returns-else-self-eq-MEDIATOR : goal.returns-else-self-eq-MEDIATOR
returns-else-self-eq-MEDIATOR c = requester-self _ c.if-self-eq-MEDIATOR.false
