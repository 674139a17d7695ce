use Rattle.propagation.specs.laws.Failed.{Swept}
use Rattle.propagation.proofs.failing.sweep.Given as goal

abbrev pub invariant-loop-i : goal.invariant-loop-i
invariant-loop-i l = Swept l.way l.alive l.hit l.initial.failed l.i l.failed l.added
