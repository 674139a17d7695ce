use mathlib.Core.Path.{ap}
use mathlib.Core.Bool.{not}
use mathlib.Core.Path.{refl, sym, ◌∙◌}
use Rattle.legal.specs.laws.Number.{stops, passes}
use Rattle.legal.proofs.edges.added_number.Goals as goal

pub returns-then-not-justified : goal.returns-then-not-justified
returns-then-not-justified c = stops _ _ _ (ap not c.if-not-justified.true)

pub returns-then-is_processed : goal.returns-then-is_processed
returns-then-is_processed c = passes _ _ _ (ap not c.if-not-justified.false) (stops _ _ _ (sym c.is_processed.ensures ∙ c.if-is_processed.true))

pub returns-then-full : goal.returns-then-full
returns-then-full c =
    passes _ _ _ (ap not c.if-not-justified.false)
    (passes _ _ _ (sym c.is_processed.ensures ∙ c.if-is_processed.false) (stops _ _ _ c.if-full.true))

pub returns : goal.returns
returns c =
    passes _ _ _ (ap not c.if-not-justified.false)
    (passes _ _ _ (sym c.is_processed.ensures ∙ c.if-is_processed.false) (passes _ _ _ c.if-full.false refl))
