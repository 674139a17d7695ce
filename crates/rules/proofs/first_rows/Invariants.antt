use Rattle.rules.specs.laws.Columns.{Column, body_first}
use Rattle.rules.proofs.first_rows.Given as goal

abbrev pub invariant-loop-i : goal.invariant-loop-i
invariant-loop-i l = Column (body_first l.pool) 128 130 l.i l.first
