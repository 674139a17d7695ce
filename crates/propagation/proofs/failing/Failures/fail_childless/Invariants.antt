use Prim.Native.Nat.{ℕ, ◌≤◌}
use mathlib.Core.List.{List}
use Rattle.propagation.specs.laws.Satisfied.{graph}
use Rattle.propagation.specs.laws.Failing.{Keeps}
use Rattle.propagation.proofs.failing.Failures.fail_childless.Given as goal

abbrev pub invariant-loop-i : goal.invariant-loop-i
invariant-loop-i l = (l.self.tail ≤ 128) × ((m : ℕ) (F S : List ℕ) → Keeps m (graph F S l.way) l.initial.self → Keeps m (graph F S l.way) l.self)
