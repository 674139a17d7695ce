use mathlib.Core.Path.{ap, sym, ◌∙◌}
use mathlib.Core.Bool.{not}
use Rattle.legal.specs.laws.JudgedLaws.{proves-none, proves-asked}
use Rattle.legal.specs.laws.Proved.{proved-all}
use Rattle.legal.proofs.asked.is_proved.Goals as goal

pub returns-then-not-is_implication : goal.returns-then-not-is_implication
returns-then-not-is_implication c = proves-none _ _ _ c.is_implication.ensures (ap not c.if-not-is_implication.true)

pub ask-requires : goal.ask-requires
ask-requires c = let known = c.requires.1.1.knows (sym c.is_implication.ensures ∙ c.if-not-is_implication.false) in
    (known.few, (c.requires.1.0, known.ruled), known.related)

pub returns : goal.returns
returns c =
    proves-asked _ _ _ _ _ c.requires.1.1 c.implication_of-q.ensures
    (proved-all _ _ _ _ (c.requires.1.1.knows (sym c.is_implication.ensures ∙ c.if-not-is_implication.false)) c.ask.ensures)
