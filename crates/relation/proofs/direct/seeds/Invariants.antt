use Prim.Native.Nat.{ℕ}
use mathlib.Core.List.{List}
use Rattle.rt0.specs.laws.Pool.{pool_of}
use Rattle.rules.specs.laws.Columns.{Column, head_row_in}
use Rattle.relation.specs.laws.Question.{StartTo}
use Rattle.relation.proofs.direct.seeds.Given as goal

abbrev pub invariant-loop-i : goal.invariant-loop-i
invariant-loop-i l = (H : List ℕ) → Column (head_row_in l.pool.count H) 128 130 l.pool.count l.head
    → StartTo (pool_of l.pool.count H l.pool.kinds l.pool.numbers) l.on l.i l.rows
