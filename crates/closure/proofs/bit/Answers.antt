use mathlib.Core.Path.{◌∙◌}
use Rattle.closure.specs.laws.Laws.{bit_is}
use Rattle.closure.proofs.bit.Goals as goal

pub returns : goal.returns
returns c = c.test.ensures ∙ bit_is _ _ _ c.requires.1
