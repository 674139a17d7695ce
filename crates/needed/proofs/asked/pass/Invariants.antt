use Rattle.needed.specs.laws.Flags.{Swept}
use Rattle.needed.proofs.asked.pass.Given as goal

abbrev pub invariant-loop-j : goal.invariant-loop-j
invariant-loop-j l = Swept l.pool l.initial.flags l.flags l.done l.some l.j
