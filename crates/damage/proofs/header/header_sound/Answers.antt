use Rattle.damage.specs.laws.Header.{header_is}
use Rattle.damage.proofs.header.header_sound.Goals as goal

pub returns : goal.returns
returns c = header_is _ _ c.wanted_sound.ensures
