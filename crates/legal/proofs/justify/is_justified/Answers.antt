use Rattle.negotiation.specs.laws.Within.{within-few}
use Rattle.legal.specs.laws.JudgedLaws.{plain-justified}
use mathlib.Core.Path.{sym, ◌∙◌}
use Rattle.legal.proofs.justify.is_justified.Goals as goal

pub is_linked-requires : goal.is_linked-requires
is_linked-requires c = (
  (within-few _ c.requires.0).0,
  (within-few _ c.requires.0).1,
  sym c.is_linking.ensures
      ∙ c.if-is_linking.true,
  c.requires.2.says (sym c.is_linking.ensures ∙ c.if-is_linking.true),
)

pub returns : goal.returns
returns c = plain-justified _ _ _ c.requires.1 c.is_linking.ensures c.if-is_linking.false c.is_implication.ensures
