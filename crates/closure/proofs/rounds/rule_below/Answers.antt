use Rattle.closure.specs.laws.Laws.{rule-full}
use Rattle.closure.proofs.rounds.rule_below.Goals as goal

pub returns-then-is_full : goal.returns-then-is_full
returns-then-is_full c = rule-full _ _ _ _ _ _ _ _ c.requires.1 c.told-rows c.requires.2 c.is_full.ensures c.if-is_full.true
