use Prim.Native.Nat.{◌-◌}
use Rattle.frontier.specs.laws.Queue.{Running}
use Rattle.frontier.proofs.reached.Given as goal

abbrev pub invariant-loop-q : goal.invariant-loop-q
invariant-loop-q l = Running l.pool l.on l.stop l.initial.work l.work l.q

abbrev pub decreases-loop-q : goal.decreases-loop-q
decreases-loop-q l = 128 - l.q
