use Prim.Native.Nat.{ℕ, ◌-◌, ◌≤◌}
use Rattle.propagation.specs.laws.Chains.{Chained}
use Rattle.propagation.specs.laws.Satisfied.{graph_of}
use Rattle.propagation.specs.laws.Failing.{Keeps}
use Rattle.propagation.proofs.failing.Failures.run_queue.Given as goal

abbrev pub invariant-loop-q : goal.invariant-loop-q
invariant-loop-q l = (l.self.tail ≤ 128)
    × ((m : ℕ) → Chained m l.links.from l.chains.head l.chains.next → Keeps m (graph_of l.links l.way) l.initial.self → Keeps m (graph_of l.links l.way) l.self)

abbrev pub decreases-loop-q : goal.decreases-loop-q
decreases-loop-q l = 128 - l.q
