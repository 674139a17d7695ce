use Rattle.applied.specs.laws.After.{end-success, end-failed, end-stalled, end-full, end_none}
use Rattle.applied.proofs.after.end_of.Goals as goal

pub returns-then-primary-eq1 : goal.returns-then-primary-eq1
returns-then-primary-eq1 c = end-success _ _ _ c.if-primary-eq1.true

pub returns-then-primary-eq2 : goal.returns-then-primary-eq2
returns-then-primary-eq2 c = end-failed _ _ _ c.if-primary-eq1.false c.if-primary-eq2.true

pub returns-then-stalled : goal.returns-then-stalled
returns-then-stalled c = end-stalled _ _ _ c.if-primary-eq1.false c.if-primary-eq2.false c.if-stalled.true

pub returns-then-full : goal.returns-then-full
returns-then-full c = end-full _ _ _ c.if-primary-eq1.false c.if-primary-eq2.false c.if-stalled.false c.if-full.true

pub returns-else-full : goal.returns-else-full
returns-else-full c = end_none _ _ _ c.if-primary-eq1.false c.if-primary-eq2.false c.if-stalled.false c.if-full.false
