use Rattle.expression.specs.declared.Expression.TheVariants as E
use Rattle.rules.specs.laws.Ruled.{compiled-plain}
use Rattle.relation.specs.laws.Answer.{related}
use Rattle.relation.proofs.relation.Goals as goal

pub returns : goal.returns
returns c H ruled =
    related _ c.args.on.now c.requires.0 (E.Entity 0) c.args.rules.now (compiled-plain _ c.requires.0 c.args.rules.now ruled) ruled.wide _
    c.seeds-rows.result _ (c.seeds-rows.ensures H ruled.head) c.close.ensures
