use Rattle.rules.specs.laws.Column.{link_row}
use Rattle.rules.proofs.linking.name_link.Goals as goal

pub returns-in-Linked : goal.returns-in-Linked
returns-in-Linked c = λ K N. link_row _ c.args.able.now c.args.i c.args.pool.now.count c.args.x c.args.named.now _ _ _ c.in-Linked.is
    (c.name_row.ensures K N)
