use mathlib.Core.Path.{sym, ap}
use mathlib.Core.Bool.{Bool, cond}
use Rattle.applied.specs.After.{idle_of}
use Rattle.applied.proofs.after.idle_of.Goals as goal

pub returns-then-moved : goal.returns-then-moved
unfolding idle_of
returns-then-moved c = ap (λ (b : Bool). cond b 0 1) (sym c.if-moved.true)

pub returns-else-moved : goal.returns-else-moved
unfolding idle_of
returns-else-moved c = ap (λ (b : Bool). cond b 0 1) (sym c.if-moved.false)
