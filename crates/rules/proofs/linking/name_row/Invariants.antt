use Prim.Native.Nat.{ℕ}
use mathlib.Core.List.{List}
use Rattle.rt0.specs.laws.Pool.{pool_of}
use Rattle.rules.specs.laws.Columns.{NamedRow}
use Rattle.rules.proofs.linking.name_row.Given as goal

abbrev pub invariant-loop-j : goal.invariant-loop-j
invariant-loop-j l = (K N : List ℕ) → NamedRow (pool_of l.pool.count l.pool.heads K N) l.able l.i l.m l.j l.initial.named l.named
