use mathlib.Core.Path.{ap, ◌∙◌}
use Rattle.expression.specs.declared.Role.{Role}
use Rattle.needed.specs.laws.Flag.{raised-not, not_named}
use Rattle.needed.proofs.asked.flag_name.Goals as goal

pub returns-else-head-m : goal.returns-else-head-m
returns-else-head-m c = raised-not _ (not_named _ _ (λ e. c.if-head-m.false (ap (λ (p : Role). p.name) c.head.ensures ∙ e)))
