use native.Mathlib.Omega.{arith}
use Rattle.rules.specs.laws.Digit.{bit-missed, bit-hit}
use Rattle.rules.proofs.digits.find_source.Goals as goal

pub returns-then-pool-s : goal.returns-then-pool-s
returns-then-pool-s c =
    bit-missed c.args.pool.now.count c.requires.0 c.args.pool.now.kinds c.args.pool.now.numbers c.args.b c.args.body.now _ _
    c.least_of-s.result c.requires.1 c.alike-lo.ensures c.alike-hi.ensures c.least_of-s.ensures c.if-pool-s.true

pub returns-then-is_body : goal.returns-then-is_body
returns-then-is_body c =
    bit-hit c.args.pool.now.count c.requires.0 c.args.pool.now.kinds c.args.pool.now.numbers c.args.b c.args.body.now _ _
    c.least_of-s.result c.requires.1 c.alike-lo.ensures c.alike-hi.ensures c.least_of-s.ensures (omega arith) c.is_body.ensures
    c.if-is_body.true
