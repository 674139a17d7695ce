use mathlib.Core.Path.{ap}
use mathlib.Core.Bool.{not}
use mathlib.Core.Path.{sym, ◌∙◌}
use Rattle.closure.specs.laws.Laws.{link-grown, not_left}
use Rattle.closure.proofs.linked_rules.link.Goals as goal

pub returns : goal.returns
returns c = link-grown c.if-rules-i.false c.if-on-i-ne1.false (sym c.bit.ensures ∙ not_left _ (ap not c.if-not-bit.false))
    (sym (rw c.membership.ensures at c.bit-else-not-bit.ensures) ∙ not_left _ (ap not c.if-not-bit-2.false)) c.add_row.ensures
