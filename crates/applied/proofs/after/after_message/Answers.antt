use mathlib.Core.Path.{refl}
use Rattle.negotiation.specs.State.{with_header}
use Rattle.negotiation.specs.laws.State.{state_of}
use Rattle.negotiation.specs.laws.Within.{within-few}
use Rattle.applied.specs.laws.After.{after_is}
use Rattle.applied.proofs.after.after_message.Goals as goal

pub state_of-primary-requires : goal.state_of-primary-requires
state_of-primary-requires c = (c.requires.1, (within-few _ c.requires.0).0, (within-few _ c.requires.0).1, c.requires.3, c.requires.4)

pub returns : goal.returns
unfolding state_of with_header
returns c = after_is _ c.args.n.now _ _ _ c.state_of-primary.ensures c.header_after-n.ensures refl
