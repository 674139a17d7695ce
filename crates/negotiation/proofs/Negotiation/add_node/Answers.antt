use Rattle.negotiation.specs.laws.State.{state_of}
use Rattle.negotiation.specs.State.{with_node}
use Rattle.negotiation.proofs.Negotiation.add_node.Goals as goal

pub returns : goal.returns
unfolding state_of with_node
returns c = rw c.push.ensures
