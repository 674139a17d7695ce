use Prim.Native.Nat.{ℕ}
use mathlib.Core.List.{List}
use Rattle.propagation.specs.laws.Satisfied.{graph}
use Rattle.propagation.specs.laws.Work.{Base, Full}
use Rattle.propagation.proofs.satisfying.Work.seed.Given as goal

abbrev pub invariant-loop-i : goal.invariant-loop-i
invariant-loop-i l = (F S : List ℕ) → Base 0 (graph F S l.need) l.initial.self
    → Base 0 (graph F S l.need) l.self × Full l.i (graph F S l.need) l.self
