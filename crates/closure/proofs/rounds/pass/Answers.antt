use Rattle.closure.specs.laws.Laws.{pass-start, pass-more, pass-unchanged, level-start, level-grown}
use Rattle.closure.proofs.rounds.pass.Goals as goal
use Rattle.closure.proofs.rounds.pass.Goals.{then-rule_below, else-rule_below}

pub loop-i-init : goal.loop-i-init
loop-i-init c = (pass-start _ _ _ _ _ c.told-rows, level-start _ _ _ c.told-rows c.held-lo.ensures c.held-hi.ensures)

pub loop-i-preserved : goal.loop-i-preserved
loop-i-preserved c = (
  elim c.if-rule_below.branch [
    | then-rule_below w ↦ rw w.added-is (pass-more _ _ _ _ c.loop-i-test.true w.if-rule_below.true c.rule_below.ensures c.loop-i.invariant.0)
    | else-rule_below w ↦ rw w.added-is (pass-unchanged _ _ _ _ c.loop-i-test.true w.if-rule_below.false c.rule_below.ensures c.loop-i.invariant.0)
  ],
  level-grown _ _ c.rule_below.ensures.grown c.loop-i.invariant.1,
)
