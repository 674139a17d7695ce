use native.Mathlib.Omega.{arith}
use mathlib.Core.Path.{◌∙◌, ap}
use Rattle.rules.specs.laws.Table.{row_in}
use Rattle.rules.specs.laws.Columns.{head_row_in}
use Rattle.rules.specs.laws.Column.{column-start, column-add, column-end, row_small}
use Rattle.rules.proofs.head_rows.Goals as goal

pub loop-i-init : goal.loop-i-init
loop-i-init c = column-start _ 128 130 128 (omega arith) (omega arith)

pub loop-i-preserved : goal.loop-i-preserved
loop-i-preserved c = let n = c.args.pool.now.count in
    let H = c.args.pool.now.heads in
    column-add (head_row_in n H) 128 130 c.loop-i.i c.row.result c.loop-i.head (omega arith) (c.row.ensures ∙ ap (row_in n H) c.head.ensures)
    (rw c.row.ensures (row_small n H c.requires.0 c.head.result)) c.loop-i.invariant

pub returns : goal.returns
returns c = column-end _ 128 130 c.loop-i.i c.args.pool.now.count c.loop-i.head (omega arith) (omega arith) c.loop-i.invariant
