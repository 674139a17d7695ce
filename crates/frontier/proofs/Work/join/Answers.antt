use mathlib.Core.Path.{ap}
use mathlib.Core.Bool.{not}
use native.Mathlib.Omega.{arith}
use mathlib.Core.Path.{sym, ◌∙◌}
use borrow.Author.Tests.{not-true, not-false}
use Rattle.frontier.specs.laws.QueueLaws.{join-not, join-room, join-new}
use Rattle.frontier.proofs.Work.join.Goals as goal

pub returns-then-not-is_next : goal.returns-then-not-is_next
returns-then-not-is_next c = λ p k n K N l. join-not _ _ _ _ _ c.requires.1 (sym (c.is_next.ensures p k) ∙ not-true _ (ap not c.if-not-is_next.true))

pub bounds-self-self : goal.bounds-self-self
bounds-self-self c = join-room _ _ c.requires.1 c.requires.0 c.if-self-i-eq1.false

pub overflow_add-self : goal.overflow_add-self
overflow_add-self c = omega (arith, join-room _ _ c.requires.1 c.requires.0 c.if-self-i-eq1.false)

pub returns : goal.returns
returns c = λ p k n K N l. join-new _ _ _ _ _ c.requires.1 l c.requires.0 c.if-self-i-eq1.false
    (sym (c.is_next.ensures p k) ∙ not-false _ (ap not c.if-not-is_next.false))
