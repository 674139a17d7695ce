use native.Mathlib.Omega.{arith}
use Rattle.propagation.specs.laws.FailedLaws.{sweep-add-at, sweep-skip-at, sweep-all, cnt-few}
use Rattle.propagation.proofs.failing.sweep.Goals as goal
use Rattle.propagation.proofs.failing.sweep.Goals.{then-fails_anew, else-fails_anew}

pub overflow_add-added : goal.overflow_add-added
overflow_add-added c = omega (arith, c.loop-i.invariant.counted, cnt-few c.loop-i.failed)

pub loop-i-preserved : goal.loop-i-preserved
loop-i-preserved c = let t = c.fails_anew in
    elim c.if-fails_anew.branch [
      | then-fails_anew w ↦ sweep-add-at _ _ _ _ c.loop-i.failed _ c.loop-i.i c.loop-i.added _ _ (omega arith) t.ensures w.if-fails_anew.true
          w.failed-is w.added-is c.loop-i.invariant
      | else-fails_anew w ↦ sweep-skip-at _ _ _ _ c.loop-i.failed _ c.loop-i.i c.loop-i.added _ _ (omega arith) t.ensures w.if-fails_anew.false
          w.failed-is w.added-is c.loop-i.invariant
    ]

pub returns : goal.returns
returns c = sweep-all _ _ _ _ _ _ _ _ c.loop-i-test.false c.requires.1 c.loop-i.invariant
