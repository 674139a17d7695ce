use Rattle.rt0.specs.laws.Find.{Missed}
use Rattle.candidates.specs.laws.Links.{is_complete_at}
use Rattle.candidates.proofs.Place.any_complete.Given as goal

abbrev pub invariant-loop-j : goal.invariant-loop-j
invariant-loop-j l = Missed (is_complete_at l.self.negotiation.now.nodes l.self.negotiation.now.edges l.self.number) (λ k. k) l.j
