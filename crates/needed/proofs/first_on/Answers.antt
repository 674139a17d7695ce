use Rattle.needed.specs.laws.Column.{first-start}
use Rattle.needed.proofs.first_on.Goals as goal

pub loop-i-init : goal.loop-i-init
loop-i-init c = first-start
