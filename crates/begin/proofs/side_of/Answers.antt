use mathlib.Core.Bool.{true, false}
use Rattle.begin.specs.laws.Begin.{side-by}
use Rattle.begin.proofs.side_of.Goals as goal

pub returns-then-is_requester : goal.returns-then-is_requester
returns-then-is_requester c = side-by c.args.entity c.args.name c.is_requester.ensures true c.if-is_requester.true

pub returns-else-is_requester : goal.returns-else-is_requester
returns-else-is_requester c = side-by c.args.entity c.args.name c.is_requester.ensures false c.if-is_requester.false
