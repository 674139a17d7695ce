use Rattle.sending.specs.laws.Behind.{behind-start, behind-next, behind-all}
use Rattle.sending.proofs.pool.own_pool.Goals as goal

pub loop-i-init : goal.loop-i-init
loop-i-init c = behind-start _ _ _

pub loop-i-preserved : goal.loop-i-preserved
loop-i-preserved c = behind-next _ _ _ c.loop-i.invariant c.loop-i-test.true c.push_flagged.ensures

pub returns-clause-all : goal.returns-clause-all
returns-clause-all c = behind-all _ _ _ c.loop-i.invariant c.loop-i-test.false
