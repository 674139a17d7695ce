use Rattle.needed.proofs.needed.Goals as goal

pub keep-requires : goal.keep-requires
keep-requires c =
    let ruled = c.rules_of-rules.ensures in
    (c.requires.0, c.requires.1, ruled, c.first_on-on.ensures, c.relation-rows.ensures c.args.pool.now.heads ruled)
