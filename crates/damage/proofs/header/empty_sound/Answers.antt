use Rattle.damage.specs.laws.Header.{empty-is}
use Rattle.damage.proofs.header.empty_sound.Goals as goal

pub returns : goal.returns
returns c = empty-is _ _ _ c.count.ensures
