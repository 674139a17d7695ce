use Rattle.damage.specs.laws.Records.{primary-other, primary-wanted, primary-role}
use Rattle.damage.proofs.nodes.primary_sound.Goals as goal

pub returns-then-x-requester : goal.returns-then-x-requester
returns-then-x-requester c = primary-other _ _ c.requester.ensures c.if-x-requester.true

pub returns-then-h-eq-MEDIATOR : goal.returns-then-h-eq-MEDIATOR
returns-then-h-eq-MEDIATOR c = primary-wanted _ _ c.requester.ensures c.if-x-requester.false c.if-h-eq-MEDIATOR.true c.same.ensures

pub returns : goal.returns
returns c = primary-role _ _ c.requester.ensures c.if-x-requester.false c.if-h-eq-MEDIATOR.false c.is_role_expression.ensures
