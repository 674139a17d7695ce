use Rattle.closure.specs.laws.Laws.{CloseTo, left}
use Rattle.closure.proofs.close.Given as goal

abbrev pub invariant-loop-more : goal.invariant-loop-more
invariant-loop-more l = CloseTo l.rules l.on l.own l.mem l.initial.rows l.rows l.more

abbrev pub decreases-loop-more : goal.decreases-loop-more
decreases-loop-more l = left l.rows l.more
