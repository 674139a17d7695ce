use native.Mathlib.Omega.{arith}
use Rattle.rules.specs.laws.Table.{is_body_in, bit_in}
use Rattle.rules.specs.laws.Search.{first-at, first-nowhere, not_at}
use Rattle.rules.proofs.rows.source.Goals as goal

pub returns-then-is_body : goal.returns-then-is_body
unfolding bit_in
returns-then-is_body c =
    first-at c.args.pool.now.count (is_body_in c.args.pool.now.kinds c.args.pool.now.numbers c.args.b) c.loop-s.s (omega arith)
    c.loop-s.invariant c.is_body.ensures c.if-is_body.true

pub loop-s-preserved : goal.loop-s-preserved
loop-s-preserved c =
    not_at (is_body_in c.args.pool.now.kinds c.args.pool.now.numbers c.args.b) c.loop-s.s c.loop-s.invariant c.is_body.ensures
    c.if-is_body.false

pub returns : goal.returns
unfolding bit_in
returns c =
    first-nowhere c.args.pool.now.count (is_body_in c.args.pool.now.kinds c.args.pool.now.numbers c.args.b) c.loop-s.s
    (omega arith) (omega arith) c.loop-s.invariant
