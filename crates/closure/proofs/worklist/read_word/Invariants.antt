use mathlib.Core.Path.{◌≡◌}
use lib.ListN.{length}
use Rattle.closure.proofs.worklist.read_word.Given as goal

abbrev pub invariant-loop-m : goal.invariant-loop-m
invariant-loop-m l = length l.rows ≡ 260

abbrev pub decreases-loop-m : goal.decreases-loop-m
decreases-loop-m l = l.m
