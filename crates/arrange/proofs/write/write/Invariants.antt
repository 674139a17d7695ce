-- The loop's invariant: the records of the first i entries are written, each once.
use Rattle.arrange.specs.laws.Writing.{Writing}
use Rattle.arrange.proofs.write.write.Given as goal

abbrev pub invariant-loop-i : goal.invariant-loop-i
invariant-loop-i l = Writing l.s l.entries l.out l.i l.at
