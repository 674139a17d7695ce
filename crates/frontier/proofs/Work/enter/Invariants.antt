use Prim.Native.Nat.{ℕ}
use mathlib.Core.List.{List}
use Rattle.expression.specs.declared.Role.{Role}
use Rattle.expression.specs.declared.Expression.TheVariants as E
use Rattle.expression.specs.laws.Key.{KeyOf}
use Rattle.rt0.specs.laws.Pool.{pool_of}
use Rattle.frontier.specs.laws.Queue.{Entered}
use Rattle.frontier.proofs.Work.enter.Given as goal

abbrev pub invariant-loop-i : goal.invariant-loop-i
invariant-loop-i l = (p : Role) → KeyOf p l.key → (K N : List ℕ) → Entered (pool_of l.pool.count l.pool.heads K N) l.on l.initial.self l.self (E.Role p) l.i
