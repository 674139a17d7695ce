use mathlib.Core.Path.{refl}
use Rattle.take.specs.Take.{message_size}
use Rattle.take.proofs.call.fits.Goals as goal

pub returns : goal.returns
unfolding message_size
returns c = refl
