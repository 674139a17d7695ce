use mathlib.Core.Path.{ap}
use mathlib.Core.Bool.{not}
use mathlib.Core.Path.{refl}
use Rattle.expression.specs.laws.Same.{other-head, same_head}
use Rattle.rt0.proofs.Pool.is_at.Goals as goal

pub returns-then-not-has_head : goal.returns-then-not-has_head
returns-then-not-has_head c = λ d k q. other-head _ d refl (c.has_head.ensures d.head k) (ap not c.if-not-has_head.true)

pub returns : goal.returns
returns c = λ d k q. same_head _ d refl (c.has_head.ensures d.head k) (ap not c.if-not-has_head.false) refl (c.is_body.ensures d.body q)
