use Rattle.closure.specs.laws.Laws.{rule-turn, rule-all}
use Rattle.closure.proofs.rounds.rule.Goals as goal

pub loop-h-preserved : goal.loop-h-preserved
loop-h-preserved c =
    rule-turn _ _ _ _ c.if-rules-i.false c.if-on-i-ne1.false c.loop-h-test.true
    (c.turn-t.ensures c.loop-h-test.true) c.loop-h.invariant

pub returns : goal.returns
returns c = rule-all _ _ _ _ c.loop-h-test.false c.loop-h.invariant
