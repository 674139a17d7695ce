use mathlib.Core.Path.{refl}
use Rattle.applied.specs.laws.Step.{step-mark}
use Rattle.applied.proofs.mark.Goals as goal

pub returns : goal.returns
returns c = step-mark _ _ _ (c.node-x.ensures _ c.requires.0) refl c.marked_state.ensures c.mark.ensures
