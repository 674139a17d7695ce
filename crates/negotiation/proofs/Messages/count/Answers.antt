use mathlib.Core.Path.{refl}
use Rattle.negotiation.specs.Messages.{message_count}
use Rattle.negotiation.proofs.Messages.count.Goals as goal

pub returns : goal.returns
unfolding message_count
returns c = refl
