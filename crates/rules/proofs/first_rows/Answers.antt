use native.Mathlib.Omega.{arith}
use Rattle.rt0.specs.laws.Pool.{body_at}
use Rattle.rules.specs.laws.Columns.{body_first}
use Rattle.rules.specs.laws.Column.{column-start, column-add, column-end, first_small}
use Rattle.rules.proofs.first_rows.Goals as goal

pub loop-i-init : goal.loop-i-init
loop-i-init c = column-start _ 128 130 128 (omega arith) (omega arith)

pub loop-i-preserved : goal.loop-i-preserved
loop-i-preserved c =
    column-add (body_first c.args.pool.now) 128 130 c.loop-i.i c.first_at.result c.loop-i.first (omega arith) c.first_at.ensures
    (rw c.first_at.ensures (first_small c.args.pool.now c.requires.0 (body_at c.args.pool.now c.loop-i.i))) c.loop-i.invariant

pub returns : goal.returns
returns c = column-end _ 128 130 c.loop-i.i c.args.pool.now.count c.loop-i.first (omega arith) (omega arith) c.loop-i.invariant
