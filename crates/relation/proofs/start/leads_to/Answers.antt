use mathlib.Core.Path.{sym, ◌∙◌}
use Rattle.relation.specs.laws.Bodies.{own-kind, own_name, own-none, own_is}
use Rattle.relation.proofs.start.leads_to.Goals as goal

pub returns-then-pool-i-ne3 : goal.returns-then-pool-i-ne3
returns-then-pool-i-ne3 c = λ n H e f m s. own-kind _ c.args.rows.now c.args.i e c.if-pool-i-ne3.true

pub returns-then-pool-i : goal.returns-then-pool-i
returns-then-pool-i c = λ n H e f m s. own_name _ c.args.rows.now c.args.i e c.if-pool-i-ne3.false (λ z. c.if-pool-i.true (z ∙ sym m))

pub returns-then-s-ge128 : goal.returns-then-s-ge128
returns-then-s-ge128 c = λ n H e f m s. own-none _ c.args.rows.now c.args.i e c.args.s s c.if-s-ge128.true

pub returns : goal.returns
returns c = λ n H e f m s. own_is _ c.args.rows.now c.args.i e c.args.s _ c.if-pool-i-ne3.false (c.if-pool-i.false ∙ m) s c.if-s-ge128.false f
    c.bit.ensures
