use Rattle.choice.specs.laws.Waits.{Compared}
use Rattle.choice.proofs.waiting.differ.Given as goal

abbrev pub invariant-loop-j : goal.invariant-loop-j
invariant-loop-j l = Compared l.a l.b l.j l.found
