use mathlib.Core.Path.{ap}
use Rattle.expression.specs.declared.Raw.{Raw}
use Rattle.relation.specs.laws.Bodies.{starts-off, starts-link, starts-same}
use Rattle.relation.proofs.start.starts.Goals as goal

pub returns-then-on-i-ne1 : goal.returns-then-on-i-ne1
returns-then-on-i-ne1 c n H e q f h = starts-off _ c.args.on.now c.args.rows.now e c.args.i c.if-on-i-ne1.true

pub returns-then-leads_to : goal.returns-then-leads_to
returns-then-leads_to c n H e q f h =
    starts-link _ c.args.on.now c.args.rows.now e c.args.i c.if-on-i-ne1.false (c.leads_to.ensures n H e f (ap (λ (r : Raw). r.n1) q) h)
    c.if-leads_to.true

pub returns : goal.returns
returns c n H e q f h =
    starts-same _ c.args.on.now c.args.rows.now e c.args.i c.if-on-i-ne1.false (c.leads_to.ensures n H e f (ap (λ (r : Raw). r.n1) q) h)
    c.if-leads_to.false (c.is_body.ensures e q)
