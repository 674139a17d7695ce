use mathlib.Core.Path.{refl}
use Rattle.legal.specs.Number.{end_number}
use Rattle.legal.specs.laws.Number.{stops, passes, fresh-yes, fresh-no}
use Rattle.legal.proofs.commands.end_number.Goals as goal

pub returns-then-n-eq0 : goal.returns-then-n-eq0
unfolding end_number
returns-then-n-eq0 c = stops _ _ _ (fresh-yes c.args.n.now c.if-n-eq0.true)

pub returns : goal.returns
unfolding end_number
returns c = passes _ _ _ (fresh-no c.args.n.now c.if-n-eq0.false) refl
