use native.Mathlib.Omega.{arith}
use Rattle.rules.specs.laws.Table.{is_head_in, row_in}
use Rattle.rules.specs.laws.Search.{first-at, first-nowhere, not_at}
use Rattle.rules.proofs.rows.row.Goals as goal

pub returns-then-has_head : goal.returns-then-has_head
unfolding row_in
returns-then-has_head c = let k = c.key_of-key.ensures in
    first-at c.args.pool.now.count (is_head_in c.args.pool.now.heads c.args.p) c.loop-j.j (omega arith)
    (c.loop-j.invariant c.args.p k) (c.has_head.ensures c.args.p k) c.if-has_head.true

pub loop-j-preserved : goal.loop-j-preserved
loop-j-preserved c = λ p k. not_at (is_head_in c.args.pool.now.heads p) c.loop-j.j (c.loop-j.invariant p k) (c.has_head.ensures p k)
    c.if-has_head.false

pub returns : goal.returns
unfolding row_in
returns c =
    first-nowhere c.args.pool.now.count (is_head_in c.args.pool.now.heads c.args.p) c.loop-j.j (omega arith) (omega arith)
    (c.loop-j.invariant c.args.p c.key_of-key.ensures)
