use Prim.Native.Nat.{◌+◌}
use Rattle.closure.proofs.linked_rules.owned.Given as goal

abbrev pub decreases-loop-s : goal.decreases-loop-s
decreases-loop-s l = l.sources.lo + l.sources.hi
