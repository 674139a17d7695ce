use mathlib.Core.Path.{refl}
use Rattle.rt0.specs.laws.Pool.{credentials}
use Rattle.rt0.proofs.Pool.empty.Goals as goal

pub returns : goal.returns
unfolding credentials
returns c = refl
