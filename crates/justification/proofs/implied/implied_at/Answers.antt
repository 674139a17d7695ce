use mathlib.Core.Path.{refl}
use Rattle.justification.specs.laws.ImpliedLaws.{from-other, from-here}
use Rattle.justification.proofs.implied.implied_at.Goals as goal

pub returns-then-edges-j : goal.returns-then-edges-j
returns-then-edges-j c on m h = from-other _ _ _ _ refl c.if-edges-j.true

pub returns : goal.returns
returns c on m h =
    from-here _ _ _ _ refl c.if-edges-j.false refl c.expression_at-f.ensures c.requires.3 (c.in_column.ensures on m h)
