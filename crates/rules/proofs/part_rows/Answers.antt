use native.Mathlib.Omega.{arith}
use mathlib.Core.Path.{◌∙◌, ap}
use Rattle.rules.specs.laws.Table.{row_of}
use Rattle.rules.specs.laws.Columns.{four_rows}
use Rattle.rules.specs.laws.Column.{parts-start, parts_add, parts-end, row_small}
use Rattle.rules.proofs.part_rows.Goals as goal

pub loop-i-init : goal.loop-i-init
loop-i-init c = parts-start _ _

pub loop-i-preserved : goal.loop-i-preserved
loop-i-preserved c = let P = c.args.pool.now in
    parts_add (row_of P) P (row_small P.count P.heads c.requires.0) c.loop-i.i c.loop-i.part c.rows_of-r.result (omega arith)
    (c.rows_of-r.ensures ∙ ap (four_rows (row_of P)) c.body.ensures) c.loop-i.invariant

pub returns : goal.returns
returns c = parts-end _ _ c.loop-i.i c.args.pool.now.count c.loop-i.part (omega arith) (omega arith) c.loop-i.invariant
