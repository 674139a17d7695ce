use Rattle.choice.specs.laws.Waits.{solutions-next}
use Rattle.choice.proofs.waiting.is_settled.Goals as goal

pub loop-k-preserved : goal.loop-k-preserved
loop-k-preserved c = solutions-next c.loop-k.invariant (c.is_changed.ensures c.if-is_changed.false)
