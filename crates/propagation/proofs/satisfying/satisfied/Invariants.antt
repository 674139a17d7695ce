use Rattle.propagation.specs.laws.Chains.{Chained}
use Rattle.propagation.specs.laws.Satisfied.{graph_of}
use Rattle.propagation.specs.laws.Work.{Done}
use Rattle.propagation.proofs.satisfying.satisfied.Given as goal

abbrev pub invariant-loop-j : goal.invariant-loop-j
invariant-loop-j l = Chained l.j l.links.from l.settling.chains.head l.settling.chains.next
    × Done l.j (graph_of l.links l.need) l.settling.work l.settling.work.tail
