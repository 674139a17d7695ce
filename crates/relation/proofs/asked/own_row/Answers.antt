use Rattle.rt0.specs.laws.Pool.{pool_of}
use Rattle.relation.specs.laws.QuestionLaws.{own-role}
use Rattle.relation.proofs.asked.own_row.Goals as goal

pub returns-in-Role : goal.returns-in-Role
returns-in-Role c K N = let P = pool_of c.args.pool.now.count c.args.pool.now.heads K N in
    own-role P c.requires c.args.e _ c.asked_row.result c.in-Role.is (rw c.in-Role.is (c.asked_row.ensures P c.row.ensures))
