use Rattle.damage.specs.laws.Header.{end-success, end-failed, end-open}
use Rattle.damage.proofs.header.end_sound.Goals as goal

pub returns-then-primary-eq1 : goal.returns-then-primary-eq1
returns-then-primary-eq1 c = end-success _ _ _ c.if-primary-eq1.true

pub returns-then-primary-eq2 : goal.returns-then-primary-eq2
returns-then-primary-eq2 c = end-failed _ _ _ c.if-primary-eq1.false c.if-primary-eq2.true

pub returns : goal.returns
returns c = end-open _ _ _ c.if-primary-eq1.false c.if-primary-eq2.false
