use Rattle.damage.specs.laws.Header.{count-is}
use Rattle.damage.proofs.header.count_sound.Goals as goal

pub returns : goal.returns
returns c = count-is _ c.count-n.ensures
