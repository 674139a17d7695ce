use Rattle.needed.specs.laws.Columns.{WithRest}
use Rattle.needed.proofs.with_rest.Given as goal

abbrev pub invariant-loop-i : goal.invariant-loop-i
invariant-loop-i l = WithRest l.i l.a l.initial.r l.r
