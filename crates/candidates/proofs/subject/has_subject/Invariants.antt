use Prim.Native.Nat.{ℕ}
use mathlib.Core.List.{List}
use Rattle.rt0.specs.laws.Pool.{pool_of}
use Rattle.rt0.specs.laws.Find.{Missed}
use Rattle.candidates.specs.laws.Subject.{is_subject_at}
use Rattle.candidates.proofs.subject.has_subject.Given as goal

abbrev pub invariant-loop-k : goal.invariant-loop-k
invariant-loop-k l = (H : List ℕ) → Missed (is_subject_at (pool_of l.pool.count H l.pool.kinds l.pool.numbers) l.stop l.found l.s) (λ j. j) l.k
