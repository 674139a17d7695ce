use Prim.Native.Nat.{◌-◌, ◌≤◌}
use Rattle.expression.specs.Same.{same_role}
use Rattle.needed.specs.laws.Flags.{Marked}
use Rattle.needed.proofs.asked.flag_role.Given as goal

abbrev pub invariant-loop-i : goal.invariant-loop-i
invariant-loop-i l = Marked l.pool.heads (same_role l.p) l.i l.initial.flags l.flags × (l.i ≤ l.pool.count)

abbrev pub decreases-loop-i : goal.decreases-loop-i
decreases-loop-i l = l.pool.count - l.i
