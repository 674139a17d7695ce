use Rattle.candidates.specs.laws.Collected.{Collected}
use Rattle.candidates.proofs.all.found_from_all.Given as goal

abbrev pub invariant-loop-k : goal.invariant-loop-k
invariant-loop-k l = Collected l.pool l.on l.stop l.flags l.r l.k l.all
