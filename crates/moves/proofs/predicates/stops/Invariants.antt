use Prim.Native.Nat.{ℕ}
use mathlib.Core.List.{List}
use Rattle.rt0.specs.laws.Pool.{pool_of}
use Rattle.class.specs.laws.Names.{names_of}
use Rattle.tables.specs.laws.Tables.{pairs_of}
use Rattle.moves.specs.laws.Stops.{predicate_of, Told}
use Rattle.moves.proofs.predicates.stops.Given as goal

abbrev pub invariant-loop-i : goal.invariant-loop-i
invariant-loop-i l = (H : List ℕ) → Told (predicate_of l.p (names_of l.names) (pairs_of l.pairs)) (pool_of l.pool.count H l.pool.kinds l.pool.numbers) l.i l.r
