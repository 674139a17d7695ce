use mathlib.Core.Path.{sym, ◌∙◌}
use Rattle.propagation.specs.laws.WorkLaws.{mark-new}
use Rattle.propagation.proofs.satisfying.Work.mark.Goals as goal

pub returns-then-ready-clause-marked : goal.returns-then-ready-clause-marked
returns-then-ready-clause-marked c m F S base = mark-new _ _ _ _ base c.requires.0 c.if-self-p-ne1.true (sym c.ready.ensures ∙ c.if-ready.true)
