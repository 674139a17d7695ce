use Rattle.begin.specs.laws.Begin.{role-none, role-zero, role-free}
use Rattle.begin.proofs.role_number.Goals as goal

pub returns-then-is_requester : goal.returns-then-is_requester
returns-then-is_requester c = role-none _ _ c.is_requester.ensures c.if-is_requester.true

pub returns-then-entity-name : goal.returns-then-entity-name
returns-then-entity-name c = role-zero _ _ c.is_requester.ensures c.if-is_requester.false c.if-entity-name.true

pub returns : goal.returns
returns c = role-free _ _ c.is_requester.ensures c.if-is_requester.false c.if-entity-name.false
