use Rattle.relation.specs.laws.QuestionLaws.{asked-kept, asked-own, asked-none}
use Rattle.relation.proofs.asked.asked_row.Goals as goal

pub returns-then-old-ne128 : goal.returns-then-old-ne128
returns-then-old-ne128 c = λ P h. asked-kept P c.args.e c.args.p c.args.old h c.if-old-ne128.true

pub returns-then-same : goal.returns-then-same
returns-then-same c = λ P h. asked-own P c.args.e c.args.p c.args.old h c.if-old-ne128.false c.same.ensures c.if-same.true

pub returns : goal.returns
returns c = λ P h. asked-none P c.args.e c.args.p c.args.old h c.if-old-ne128.false c.same.ensures c.if-same.false
