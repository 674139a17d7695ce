use Prim.Native.Nat.{◌-◌}
use Rattle.needed.specs.laws.Columns.{holds_from}
use Rattle.needed.specs.laws.Halves.{Halves}
use Rattle.needed.proofs.next.Switched.last_needed.Given as goal

abbrev pub invariant-loop-low : goal.invariant-loop-low
invariant-loop-low l = Halves (holds_from l.pool l.self.on l.f l.e) l.a l.pool.count l.low l.high l.last

abbrev pub decreases-loop-low : goal.decreases-loop-low
decreases-loop-low l = l.high - l.low
