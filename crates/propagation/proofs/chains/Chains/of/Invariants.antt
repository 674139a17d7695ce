use Rattle.propagation.specs.laws.Chains.{Chained}
use Rattle.propagation.proofs.chains.Chains.of.Given as goal

abbrev pub invariant-loop-j : goal.invariant-loop-j
invariant-loop-j l = Chained l.j l.links.from l.chains.head l.chains.next
