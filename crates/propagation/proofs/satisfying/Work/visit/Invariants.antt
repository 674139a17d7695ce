use Prim.Native.Nat.{ℕ}
use Rattle.propagation.specs.laws.Chains.{Chained}
use Rattle.propagation.specs.laws.Satisfied.{graph_of}
use Rattle.propagation.specs.laws.Work.{Base, Full, Visited}
use Rattle.propagation.proofs.satisfying.Work.visit.Given as goal

abbrev pub invariant-loop-h : goal.invariant-loop-h
invariant-loop-h l = (m : ℕ) → Chained m l.links.from l.chains.head l.chains.next → Base m (graph_of l.links l.need) l.initial.self
    → Full 128 (graph_of l.links l.need) l.initial.self
    → Visited m (graph_of l.links l.need) l.initial.self l.self l.v l.h

abbrev pub decreases-loop-h : goal.decreases-loop-h
decreases-loop-h l = l.h
