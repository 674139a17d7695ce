use Rattle.rules.specs.laws.Table.{row_of}
use Rattle.rules.specs.laws.Columns.{PartsTo}
use Rattle.rules.proofs.part_rows.Given as goal

abbrev pub invariant-loop-i : goal.invariant-loop-i
invariant-loop-i l = PartsTo (row_of l.pool) l.pool l.i l.part
