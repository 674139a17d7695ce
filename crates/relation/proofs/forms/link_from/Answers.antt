use Rattle.rules.specs.laws.Column.{row_small}
use Rattle.relation.specs.laws.Reached.{link-once, link_on}
use Rattle.relation.proofs.forms.link_from.Goals as goal

pub once-requires : goal.once-requires
once-requires c = (c.requires.0, rw c.row-r.ensures (row_small c.args.pool.now.count c.args.pool.now.heads c.requires.0 c.args.a))

pub returns-then-once : goal.returns-then-once
returns-then-once c on m h =
    link-once c.args.pool.now on c.requires.0 c.args.e c.args.z c.args.vals.now h c.args.mem.now
    m c.args.a c.args.m (c.once.ensures _ c.row-r.ensures) c.if-once.true

pub leads_on-requires : goal.leads_on-requires
leads_on-requires c = (c.requires.0, c.requires.1, rw c.row-r.ensures (row_small c.args.pool.now.count c.args.pool.now.heads c.requires.0 c.args.a))

pub returns : goal.returns
returns c on m h =
    link_on c.args.pool.now on c.requires.0 c.args.e c.args.z c.args.vals.now h c.args.mem.now
    m c.args.a c.args.m (c.once.ensures _ c.row-r.ensures) c.if-once.false c.row-r.result c.row-r.ensures
    c.leads_on.ensures
