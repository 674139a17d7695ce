use mathlib.Core.Path.{ap}
use mathlib.Core.Bool.{not}
use Rattle.rt0.specs.laws.Heads.{none-of-one}
use Rattle.needed.specs.laws.Flag.{marked_other}
use Rattle.needed.proofs.asked.flag_head.Goals as goal

pub returns-else-has_head : goal.returns-else-has_head
returns-else-has_head c = λ p k r m. marked_other (none-of-one _ (c.has_head.ensures p k) (ap not c.if-has_head.false)) m
