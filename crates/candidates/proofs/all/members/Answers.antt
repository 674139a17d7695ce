use Rattle.candidates.specs.laws.All.{told-on}
use Rattle.candidates.proofs.all.members.Goals as goal

pub flagged-requires : goal.flagged-requires
flagged-requires c = let ruled = c.rules_of-rules.ensures in (c.requires, ruled, c.relation-rows.ensures c.args.pool.now.heads ruled)

pub returns : goal.returns
returns c = told-on c.args.pool.now c.args.a c.requires c.flagged.ensures
