use Rattle.negotiation.specs.laws.State.{state_of}
use Rattle.negotiation.specs.State.{with_shown}
use Rattle.negotiation.proofs.Negotiation.show.Goals as goal

pub returns : goal.returns
unfolding state_of with_shown
returns c = rw c.push.ensures.added
