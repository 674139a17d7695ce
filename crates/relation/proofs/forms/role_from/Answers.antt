use Rattle.relation.specs.laws.Reached.{role-head, role-none}
use Rattle.relation.proofs.forms.role_from.Goals as goal

pub returns-then-r-ge128 : goal.returns-then-r-ge128
returns-then-r-ge128 c K N on h =
    role-none _ on c.requires.0 c.args.e c.args.z c.args.vals.now h c.args.p c.row-r.result c.row-r.ensures c.if-r-ge128.true c.same.ensures

pub returns : goal.returns
returns c K N on h =
    role-head _ on c.requires.0 c.args.e c.args.z c.args.vals.now h c.args.p c.row-r.result c.row-r.ensures c.if-r-ge128.false c.bit.ensures
