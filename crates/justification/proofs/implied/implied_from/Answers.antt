use mathlib.Core.Path.{ap}
use mathlib.Core.Bool.{not}
use Rattle.justification.specs.laws.ImpliedLaws.{from_start, from_next, from-stop, from-done}
use Rattle.justification.proofs.implied.implied_from.Goals as goal

pub loop-j-init : goal.loop-j-init
loop-j-init c on m h = from_start _ _ _ _

pub returns-then-not-implied_at : goal.returns-then-not-implied_at
returns-then-not-implied_at c on m h = from-stop _ _ _ _ (c.loop-j.invariant on m h) c.loop-j-test.true (c.implied_at.ensures on m h) (ap not c.if-not-implied_at.true)

pub loop-j-preserved : goal.loop-j-preserved
loop-j-preserved c on m h = from_next _ _ _ _ (c.loop-j.invariant on m h) c.loop-j-test.true (c.implied_at.ensures on m h) (ap not c.if-not-implied_at.false)

pub returns : goal.returns
returns c on m h = from-done _ _ _ _ (c.loop-j.invariant on m h) c.loop-j-test.false
