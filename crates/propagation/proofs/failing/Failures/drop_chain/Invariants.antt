use Prim.Native.Nat.{ℕ, ◌≤◌}
use Rattle.propagation.specs.laws.Satisfied.{graph_of}
use Rattle.propagation.specs.laws.Failing.{Keeps}
use Rattle.propagation.proofs.failing.Failures.drop_chain.Given as goal

abbrev pub invariant-loop-h : goal.invariant-loop-h
invariant-loop-h l = (l.self.tail ≤ 128)
    × ((m : ℕ) → l.first ≤ m → Keeps m (graph_of l.links l.way) l.initial.self → (l.h ≤ m) × Keeps m (graph_of l.links l.way) l.self)

abbrev pub decreases-loop-h : goal.decreases-loop-h
decreases-loop-h l = l.h
