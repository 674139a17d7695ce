use Rattle.negotiation.specs.laws.State.{state_of}
use Rattle.negotiation.specs.State.{with_edge}
use Rattle.negotiation.proofs.Negotiation.add_edge.Goals as goal

pub returns : goal.returns
unfolding state_of with_edge
returns c = rw c.push.ensures
