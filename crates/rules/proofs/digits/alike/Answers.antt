use mathlib.Core.Path.{refl}
use Rattle.rules.specs.laws.Digits.{shared}
use Rattle.rules.proofs.digits.alike.Goals as goal

pub returns : goal.returns
unfolding shared
returns c = refl
