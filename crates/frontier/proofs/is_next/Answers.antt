use mathlib.Core.Path.{ap, ◌∙◌}
use mathlib.Core.Bool.{not}
use Rattle.frontier.specs.laws.QueueLaws.{next-other, next-on}
use Rattle.frontier.proofs.is_next.Goals as goal

pub returns-then-has_head : goal.returns-then-has_head
returns-then-has_head c = λ p k. next-on _ _ p _ (c.has_head.ensures p k) (ap not c.if-has_head.true)

pub returns-else-has_head : goal.returns-else-has_head
returns-else-has_head c = λ p k. c.if-has_head.false ∙ next-other _ _ p _ (c.has_head.ensures p k) (ap not c.if-has_head.false)
