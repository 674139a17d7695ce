use Rattle.closure.specs.laws.Laws.{mark-at}
use Rattle.closure.proofs.mark.Goals as goal

pub returns : goal.returns
returns c = mark-at _ _ _ _ c.requires.0 c.requires.1 c.told-rows c.one.ensures
