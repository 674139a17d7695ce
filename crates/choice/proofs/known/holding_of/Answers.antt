use mathlib.Core.Path.{ap}
use mathlib.Core.Bool.{not}
use Rattle.tables.specs.laws.Tables.{tables_of}
use Rattle.choice.specs.laws.Known.{holding-absent, holding-policy}
use Rattle.choice.proofs.known.holding_of.Goals as goal

pub returns-then-not-holds : goal.returns-then-not-holds
unfolding tables_of
returns-then-not-holds c = holding-absent (tables_of c.args.house.now) c.args.a c.requires.1 c.holds.ensures (ap not c.if-not-holds.true)

pub returns : goal.returns
unfolding tables_of
returns c =
    holding-policy (tables_of c.args.house.now) c.args.a c.requires.1 c.holds.ensures (ap not c.if-not-holds.false)
    c.other_of.ensures c.policy_of.ensures
