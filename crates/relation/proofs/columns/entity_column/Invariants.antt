use Rattle.relation.specs.laws.Answer.{Moved}
use Rattle.relation.proofs.columns.entity_column.Given as goal

abbrev pub invariant-loop-r : goal.invariant-loop-r
invariant-loop-r l = Moved l.mem l.s l.r l.rows
