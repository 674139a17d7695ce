use mathlib.Core.Path.{◌∙◌, ap}
use Rattle.expression.specs.Form.{expression_of}
use Rattle.rt0.specs.laws.Pool.{expression_in}
use Rattle.rt0.proofs.expression_at.Goals as goal

pub returns : goal.returns
unfolding expression_in
returns c = c.expression_of.ensures ∙ ap expression_of c.raw_at.ensures
