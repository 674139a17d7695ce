use mathlib.Core.Path.{refl}
use Rattle.reply.specs.Reply.{reply_size}
use Rattle.reply.proofs.call.fits.Goals as goal

pub returns : goal.returns
unfolding reply_size
returns c = refl
