use native.Mathlib.Omega.{arith}
use Rattle.rt0.specs.laws.Pool.{pool_of}
use Rattle.rules.specs.laws.Table.{row_for}
use Rattle.rules.specs.laws.Column.{parts-start, parts_add, parts-end, row-for-small}
use Rattle.relation.proofs.asked.asked_parts.Goals as goal

pub loop-i-init : goal.loop-i-init
loop-i-init c = λ H h. parts-start _ _

pub loop-i-preserved : goal.loop-i-preserved
loop-i-preserved c = λ H h. let P = pool_of c.args.pool.now.count H c.args.pool.now.kinds c.args.pool.now.numbers in
    parts_add (row_for P c.args.e) P (row-for-small P c.requires c.args.e) c.loop-i.i c.loop-i.next c.asked_body-r.result (omega arith)
    (c.asked_body-r.ensures P.count H (h.four c.loop-i.i (omega arith))) (c.loop-i.invariant H h)

pub returns : goal.returns
returns c H h =
    parts-end _ _ c.loop-i.i c.args.pool.now.count c.loop-i.next (omega arith) (omega arith) (c.loop-i.invariant H h)
