use Rattle.needed.specs.laws.Columns.{FirstOn}
use Rattle.needed.proofs.first_on.Given as goal

abbrev pub invariant-loop-i : goal.invariant-loop-i
invariant-loop-i l = FirstOn l.i l.on
