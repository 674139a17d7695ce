use Prim.Native.Nat.{◌-◌}
use lib.ListN.{length}
use Rattle.question.specs.laws.Credentials.{Reading}
use Rattle.question.proofs.credentials.fill.Given as goal

abbrev pub invariant-loop-at : goal.invariant-loop-at
invariant-loop-at l = Reading l.s l.pool l.at

abbrev pub decreases-loop-at : goal.decreases-loop-at
decreases-loop-at l = length l.s - l.at
