use Rattle.arrange.specs.laws.Writing.{writing_start}
use Rattle.arrange.proofs.write.write.Goals as goal

pub loop-i-init : goal.loop-i-init
loop-i-init c = writing_start _ _ _ c.requires.2
