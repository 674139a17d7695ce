use Rattle.negotiation.specs.laws.State.{state_of}
use Rattle.negotiation.specs.State.{fresh_state}
use Rattle.negotiation.proofs.Negotiation.fresh.Goals as goal

pub returns : goal.returns
unfolding state_of fresh_state
returns c = rw c.empty.ensures.0 (rw c.empty-2.ensures.0 (rw c.empty-3.ensures))
