use Prim.Native.Nat.{ℕ, ◌-◌}
use mathlib.Core.Path.{◌≡◌}
use mathlib.Core.List.{List}
use Rattle.rt0.specs.laws.Pool.{pool_of}
use Rattle.rules.specs.laws.Ruled.{Ruled}
use Rattle.relation.specs.laws.Relation.{Relation, Start, switched}
use Rattle.relation.proofs.switch_all.Given as goal

-- the credentials from low to i are on, and the rows are a start with them, whatever the heads with these rules
abbrev pub invariant-loop-i : goal.invariant-loop-i
invariant-loop-i l = (l.on ≡ switched l.low (l.i - l.low) l.initial.on)
    × ((H : List ℕ) → Ruled (pool_of l.pool.count H l.pool.kinds l.pool.numbers) l.rules
    → Relation (pool_of l.pool.count H l.pool.kinds l.pool.numbers) l.initial.on l.initial.rows
    → Start (pool_of l.pool.count H l.pool.kinds l.pool.numbers) l.on l.rows)
