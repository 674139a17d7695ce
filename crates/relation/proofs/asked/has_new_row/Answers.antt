use Rattle.relation.specs.laws.QuestionLaws.{old_row}
use Rattle.relation.proofs.asked.has_new_row.Goals as goal

pub returns-in-Role : goal.returns-in-Role
returns-in-Role c = old_row c.args.pool.now.count c.args.pool.now.heads c.args.e _ c.row.result c.in-Role.is c.row.ensures
