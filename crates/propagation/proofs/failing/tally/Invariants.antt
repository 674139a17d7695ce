use mathlib.Core.List.{List}
use Prim.Native.Nat.{ℕ}
use Rattle.propagation.specs.laws.Satisfied.{graph_of}
use Rattle.propagation.specs.laws.Failing.{Tallied}
use Rattle.propagation.proofs.failing.tally.Given as goal

abbrev pub invariant-loop-j : goal.invariant-loop-j
invariant-loop-j l = (W : List ℕ) → Tallied l.j (graph_of l.links W) l.left
