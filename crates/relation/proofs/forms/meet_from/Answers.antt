use mathlib.Core.Bool.{not}
use mathlib.Core.Path.{sym, ◌∙◌, ap, subst}
use Rattle.expression.specs.declared.Role.{Role}
use Rattle.expression.specs.declared.Expression.TheVariants as E
use Rattle.rt0.specs.laws.Pool.{pool_of}
use Rattle.rt0.specs.Decide.{from?}
use Rattle.rules.specs.laws.Table.{chosen}
use Rattle.relation.specs.laws.Reached.{meet-same, meet-no, meet_all}
use Rattle.relation.proofs.forms.meet_from.Goals as goal

pub returns-then-same : goal.returns-then-same
returns-then-same c K N on h = meet-same _ c.args.p c.args.e c.same.ensures c.if-same.true

pub returns-then-not-role_from : goal.returns-then-not-role_from
returns-then-not-role_from c K N on h =
    meet-no _ c.args.p c.args.e c.same.ensures c.if-same.false c.args.p.first (λ G q. q.0) (c.role_from.ensures K N on h)
    (ap not c.if-not-role_from.true)

pub returns-then-not-role_from-2 : goal.returns-then-not-role_from-2
returns-then-not-role_from-2 c K N on h =
    meet-no _ c.args.p c.args.e c.same.ensures c.if-same.false c.args.p.second (λ G q. q.1) (c.role_from-2.ensures K N on h)
    (ap not c.if-not-role_from-2.true)

pub returns-then-not-role_from-3 : goal.returns-then-not-role_from-3
returns-then-not-role_from-3 c K N on h =
    meet-no _ c.args.p c.args.e c.same.ensures c.if-same.false c.third_of-c.result (λ G q. subst G (sym c.third_of-c.ensures) q.2)
    (c.role_from-3.ensures K N on h) (ap not c.if-not-role_from-3.true)

pub returns : goal.returns
returns c K N on h =
    let C = chosen (pool_of c.args.pool.now.count c.args.pool.now.heads K N) on in
    meet_all C c.args.p c.args.e c.same.ensures c.if-same.false (c.role_from.ensures K N on h) (ap not c.if-not-role_from.false)
    (c.role_from-2.ensures K N on h) (ap not c.if-not-role_from-2.false)
    (c.role_from-3.ensures K N on h ∙ ap (λ (o : Role). from? C (E.Role o) c.args.e) c.third_of-c.ensures) (ap not c.if-not-role_from-3.false)
    (c.role_from-4.ensures K N on h ∙ ap (λ (o : Role). from? C (E.Role o) c.args.e) c.fourth_of-d.ensures)
