use lib.ListN.{length}
use mathlib.Core.Path.{◌≡◌}
use Rattle.closure.proofs.worklist.read_rule.Given as goal

abbrev pub invariant-loop-k : goal.invariant-loop-k
invariant-loop-k l = length l.rows ≡ 260
