use Prim.Native.Nat.{◌-◌}
use Rattle.relation.specs.laws.Relation.{Relation}
use Rattle.needed.specs.laws.Columns.{Keeping}
use Rattle.needed.proofs.keep.Given as goal

abbrev pub invariant-loop-f : goal.invariant-loop-f
invariant-loop-f l = Keeping l.pool l.s l.f l.e l.r l.switched.on l.a × Relation l.pool l.switched.on l.switched.rows

abbrev pub decreases-loop-f : goal.decreases-loop-f
decreases-loop-f l = l.pool.count - l.a
