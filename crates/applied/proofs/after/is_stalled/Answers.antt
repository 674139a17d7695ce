use mathlib.Core.Path.{refl}
use Rattle.applied.specs.After.{is_stalled}
use Rattle.applied.proofs.after.is_stalled.Goals as goal

pub returns : goal.returns
unfolding is_stalled
returns c = refl
