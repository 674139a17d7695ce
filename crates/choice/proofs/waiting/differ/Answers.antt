use Rattle.choice.specs.laws.Waits.{compared-next}
use Rattle.choice.proofs.waiting.differ.Goals as goal

pub loop-j-preserved : goal.loop-j-preserved
loop-j-preserved c = compared-next c.loop-j.invariant
