use mathlib.Core.Path.{refl}
use Rattle.negotiation.specs.laws.State.{state_of}
use Rattle.negotiation.specs.State.{with_header}
use Rattle.negotiation.proofs.Negotiation.with_header.Goals as goal

pub returns : goal.returns
unfolding state_of with_header
returns c = refl
