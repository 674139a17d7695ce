use Rattle.negotiation.specs.laws.State.{state_of}
use Rattle.negotiation.specs.State.{with_mark}
use Rattle.negotiation.proofs.Negotiation.mark.Goals as goal

pub returns : goal.returns
unfolding state_of with_mark
returns c = rw c.mark.ensures
