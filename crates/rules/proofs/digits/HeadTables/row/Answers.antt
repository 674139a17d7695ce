use lib.Bits.{bit_and}
use native.Mathlib.Omega.{arith}
use Rattle.rules.specs.laws.Digit.{row-missed, row-hit}
use Rattle.rules.proofs.digits.HeadTables.row.Goals as goal

pub returns-then-pool-j : goal.returns-then-pool-j
returns-then-pool-j c =
    row-missed c.args.pool.now.count c.requires.0 c.args.pool.now.heads c.args.p c.args.self.now.entity c.args.self.now.name _ _
    c.least_of-j.result c.requires.1 (λ i. bit_and (c.alike.ensures i) (c.alike-2.ensures i))
    (λ i. bit_and (c.alike-3.ensures i) (c.alike-4.ensures i)) c.least_of-j.ensures c.if-pool-j.true

pub returns-then-is_head : goal.returns-then-is_head
returns-then-is_head c =
    row-hit c.args.pool.now.count c.requires.0 c.args.pool.now.heads c.args.p c.args.self.now.entity c.args.self.now.name _ _
    c.least_of-j.result c.requires.1 (λ i. bit_and (c.alike.ensures i) (c.alike-2.ensures i))
    (λ i. bit_and (c.alike-3.ensures i) (c.alike-4.ensures i)) c.least_of-j.ensures (omega arith) c.is_head.ensures c.if-is_head.true
