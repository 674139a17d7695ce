use mathlib.Core.Path.{ap}
use mathlib.Core.Bool.{not}
use Rattle.closure.specs.laws.Laws.{still-next}
use Rattle.closure.proofs.single.still.Goals as goal

pub loop-i-preserved : goal.loop-i-preserved
loop-i-preserved c =
    still-next c.args.rules.now _ _ _ _ c.loop-i.i c.loop-i-test.true
    (c.rests.ensures c.if-rules-ne1.false) (ap not c.if-not-rests.false) c.loop-i.invariant
