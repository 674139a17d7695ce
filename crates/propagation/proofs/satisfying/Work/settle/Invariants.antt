use Prim.Native.Nat.{ℕ, ◌-◌}
use Rattle.propagation.specs.laws.Chains.{Chained}
use Rattle.propagation.specs.laws.Satisfied.{graph_of}
use Rattle.propagation.specs.laws.Work.{Done}
use Rattle.propagation.proofs.satisfying.Work.settle.Given as goal

abbrev pub invariant-loop-q : goal.invariant-loop-q
invariant-loop-q l = (m : ℕ) → Chained m l.links.from l.chains.head l.chains.next → Done m (graph_of l.links l.need) l.initial.self l.first
    → Done m (graph_of l.links l.need) l.self l.q

abbrev pub decreases-loop-q : goal.decreases-loop-q
decreases-loop-q l = 128 - l.q
