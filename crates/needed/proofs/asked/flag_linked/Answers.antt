use Rattle.needed.specs.laws.Flag.{marked-linked}
use Rattle.needed.proofs.asked.flag_linked.Goals as goal

pub returns : goal.returns
returns c = marked-linked _ _ c.flag_role.ensures c.flag_names.ensures
