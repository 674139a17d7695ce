use Rattle.closure.specs.laws.Laws.{StillTo}
use Rattle.closure.proofs.single.still.Given as goal

abbrev pub invariant-loop-i : goal.invariant-loop-i
invariant-loop-i l = StillTo l.rules l.on l.own l.mem l.rows l.i
