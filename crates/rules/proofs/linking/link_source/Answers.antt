use Rattle.rules.specs.laws.Column.{source-here, source-none}
use Rattle.rules.proofs.linking.link_source.Goals as goal

pub returns-then-head-j : goal.returns-then-head-j
returns-then-head-j c = source-none c.args.pool.now _ c.args.j (c.requires.2.upto c.args.j c.requires.1) c.if-head-j.true

pub returns : goal.returns
returns c =
    source-here c.args.pool.now _ c.args.j c.find_source.result (c.requires.2.upto c.args.j c.requires.1) c.if-head-j.false
    c.find_source.ensures
