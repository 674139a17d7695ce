use Rattle.rules.specs.laws.Columns.{Column, head_row_in}
use Rattle.rules.proofs.head_rows.Given as goal

abbrev pub invariant-loop-i : goal.invariant-loop-i
invariant-loop-i l = Column (head_row_in l.pool.count l.pool.heads) 128 130 l.i l.head
