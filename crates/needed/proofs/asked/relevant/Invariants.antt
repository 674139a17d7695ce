use mathlib.Core.Bool.{true}
use Rattle.needed.specs.laws.Flags.{Swept}
use Rattle.needed.proofs.asked.relevant.Given as goal

abbrev pub invariant-loop : goal.invariant-loop
invariant-loop l = Swept l.pool l.initial.flags l.flags l.done true 0
