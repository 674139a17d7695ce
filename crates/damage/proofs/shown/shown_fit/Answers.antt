use mathlib.Core.Path.{ap}
use mathlib.Core.Bool.{not}
use Rattle.damage.specs.laws.Turns.{judged-none, shown-next, shown-stop, shown-done}
use Rattle.damage.proofs.shown.shown_fit.Goals as goal

pub loop-i-init : goal.loop-i-init
loop-i-init c = judged-none _ _ _

pub returns-then-not-credential_fits : goal.returns-then-not-credential_fits
returns-then-not-credential_fits c = shown-stop _ _ c.loop-i.invariant c.loop-i-test.true c.credential_fits.ensures (ap not c.if-not-credential_fits.true)

pub loop-i-preserved : goal.loop-i-preserved
loop-i-preserved c = shown-next _ _ c.loop-i.invariant c.loop-i-test.true c.credential_fits.ensures (ap not c.if-not-credential_fits.false)

pub returns : goal.returns
returns c = shown-done _ _ c.loop-i.invariant c.loop-i-test.false
