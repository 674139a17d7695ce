use mathlib.Core.Bool.{not}
use mathlib.Core.Path.{refl, ap}
use Rattle.legal.specs.Number.{open_number}
use Rattle.legal.specs.laws.Number.{stops, passes, fresh-yes, fresh-no}
use Rattle.legal.proofs.commands.open_number.Goals as goal

pub returns-then-n-ne0 : goal.returns-then-n-ne0
unfolding open_number
returns-then-n-ne0 c = stops _ _ _ (ap not (fresh-no c.args.n.now c.if-n-ne0.true))

pub returns : goal.returns
unfolding open_number
returns c = passes _ _ _ (ap not (fresh-yes c.args.n.now c.if-n-ne0.false)) refl
