use mathlib.Core.Path.{refl}
use Rattle.rules.specs.laws.Ruled.{ruled-fits}
use Rattle.legal.proofs.asked.proved_by.Goals as goal

pub relation-rows-requires : goal.relation-rows-requires
relation-rows-requires c = (c.requires, ruled-fits c.args.pool.now c.requires _ c.rules_of-rules.ensures)

pub returns : goal.returns
returns c =
    record {
      known = record { few = c.requires; ruled = c.rules_of-rules.ensures; related = c.relation-rows.ensures _ c.rules_of-rules.ensures };
      same = refl;
    }
