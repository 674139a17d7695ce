use Prim.Native.Nat.{◌-◌}
use Rattle.propagation.specs.laws.Satisfied.{graph_of}
use Rattle.propagation.specs.laws.Flags.{cnt, flag}
use Rattle.propagation.specs.laws.Failed.{Sound}
use Rattle.propagation.proofs.failing.failed.Given as goal

abbrev pub invariant-loop-failed : goal.invariant-loop-failed
invariant-loop-failed l = Sound l.links.count (graph_of l.links l.way) l.failed

abbrev pub decreases-loop-failed : goal.decreases-loop-failed
decreases-loop-failed l = 128 - cnt 128 (flag l.failed)
