use Rattle.candidates.specs.laws.Links.{Monitoring}
use Rattle.candidates.proofs.Place.monitored.Given as goal

abbrev pub invariant-loop-j : goal.invariant-loop-j
invariant-loop-j l = Monitoring l.self.negotiation.now.edges l.self.number l.j l.r
