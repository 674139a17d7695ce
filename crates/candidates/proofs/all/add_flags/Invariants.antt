use Rattle.candidates.specs.laws.Collected.{Added}
use Rattle.candidates.proofs.all.add_flags.Given as goal

abbrev pub invariant-loop-i : goal.invariant-loop-i
invariant-loop-i l = Added l.i l.initial.all l.found l.all
