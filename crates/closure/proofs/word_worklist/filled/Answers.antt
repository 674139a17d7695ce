use Rattle.closure.specs.laws.Laws.{filled-add, filled-skip}
use Rattle.closure.proofs.word_worklist.filled.Goals as goal
use Rattle.closure.proofs.word_worklist.filled.Goals.{then-rows-r-ne0, else-rows-r-ne0}

pub loop-r-preserved : goal.loop-r-preserved
loop-r-preserved c =
    elim c.if-rows-r-ne0.branch [
      | then-rows-r-ne0 w ↦ rw w.w-is (filled-add _ c.loop-r.r c.loop-r.w w.one-w.result w.one-w.ensures c.loop-r.invariant)
      | else-rows-r-ne0 w ↦ rw w.w-is (filled-skip _ c.loop-r.r c.loop-r.w w.if-rows-r-ne0.false c.loop-r.invariant)
    ]
