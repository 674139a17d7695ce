use mathlib.Core.Path.{◌∙◌, ap}
use Rattle.expression.specs.declared.Role.{Role}
use Rattle.expression.specs.Same.{same_role}
use Rattle.expression.specs.laws.Key.{same_key}
use Rattle.rt0.proofs.Pool.has_head.Goals as goal

pub returns : goal.returns
returns c = λ p k. same_key _ p c.key_of.ensures k ∙ ap (λ (r : Role). same_role r p) c.head.ensures
