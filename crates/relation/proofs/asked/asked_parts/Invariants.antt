use Prim.Native.Nat.{ℕ}
use mathlib.Core.List.{List}
use Rattle.rt0.specs.laws.Pool.{pool_of}
use Rattle.rules.specs.laws.Columns.{PartsTo}
use Rattle.rules.specs.laws.Table.{row_in, row_for}
use Rattle.relation.proofs.asked.asked_parts.Given as goal

abbrev pub invariant-loop-i : goal.invariant-loop-i
invariant-loop-i l = (H : List ℕ) → PartsTo (row_in l.pool.count H) (pool_of l.pool.count H l.pool.kinds l.pool.numbers) l.pool.count l.part
    → PartsTo (row_for (pool_of l.pool.count H l.pool.kinds l.pool.numbers) l.e) (pool_of l.pool.count H l.pool.kinds l.pool.numbers) l.i l.next
