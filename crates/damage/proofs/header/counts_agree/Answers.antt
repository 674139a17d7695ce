use Rattle.damage.specs.laws.Header.{counts-are}
use Rattle.damage.proofs.header.counts_agree.Goals as goal

pub returns : goal.returns
returns c = counts-are _
