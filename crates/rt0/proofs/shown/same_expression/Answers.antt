use Rattle.rt0.specs.laws.Bodies.{body-kind, body-lead, body-two, body-raw}
use Rattle.rt0.proofs.shown.same_expression.Goals as goal

pub returns-then-numbers-i : goal.returns-then-numbers-i
returns-then-numbers-i c = λ e q. body-lead c.args.kinds.now c.args.numbers.now c.args.i e c.args.raw q c.if-numbers-i.true

pub returns-then-kinds-i : goal.returns-then-kinds-i
returns-then-kinds-i c = λ e q. body-kind c.args.kinds.now c.args.numbers.now c.args.i e c.args.raw q c.if-kind-lt5.true
    c.if-kinds-i.true

pub returns-then-kind-eq2 : goal.returns-then-kind-eq2
returns-then-kind-eq2 c = λ e q. body-two c.args.kinds.now c.args.numbers.now c.args.i e c.args.raw q c.if-kind-eq2.true
    c.if-kinds-i.false c.if-numbers-i.false

pub returns : goal.returns
returns c = λ e q. body-raw _ _ _ e _ q c.expression_at.ensures c.raw_of.ensures c.same_raw.ensures
