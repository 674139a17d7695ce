use Rattle.propagation.specs.laws.Flags.{flag}
use Rattle.candidates.specs.laws.Skipped.{Skipped}
use Rattle.candidates.proofs.all.next_flagged.Given as goal

abbrev pub invariant-loop-k : goal.invariant-loop-k
invariant-loop-k l = Skipped (flag l.flags) l.from l.m l.k
