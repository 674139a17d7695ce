use Rattle.relation.specs.laws.Reached.{entity-answers, alone_of}
use Rattle.relation.proofs.by_entity.Goals as goal

pub returns-then-s-ge128 : goal.returns-then-s-ge128
returns-then-s-ge128 c on m =
    alone_of c.args.pool.now on c.requires c.args.mem.now m c.args.b c.source-s.result
    c.args.f c.same.result c.source-s.ensures c.if-s-ge128.true c.same.ensures

pub returns : goal.returns
returns c on m =
    c.by_form.ensures on m
    (entity-answers c.args.pool.now on c.requires c.args.mem.now m c.args.b c.source-s.result c.source-s.ensures
    c.if-s-ge128.false)
