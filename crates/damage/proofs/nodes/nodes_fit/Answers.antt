use mathlib.Core.Path.{ap}
use mathlib.Core.Bool.{not}
use Rattle.damage.specs.laws.Turns.{judged-none, nodes-next, nodes-stop, nodes-done}
use Rattle.damage.proofs.nodes.nodes_fit.Goals as goal

pub loop-i-init : goal.loop-i-init
loop-i-init c = judged-none _ _ _

pub returns-then-not-node_fits : goal.returns-then-not-node_fits
returns-then-not-node_fits c = nodes-stop _ _ c.loop-i.invariant c.loop-i-test.true c.node_fits.ensures (ap not c.if-not-node_fits.true)

pub loop-i-preserved : goal.loop-i-preserved
loop-i-preserved c = nodes-next _ _ c.loop-i.invariant c.loop-i-test.true c.node_fits.ensures (ap not c.if-not-node_fits.false)

pub returns : goal.returns
returns c = nodes-done _ _ c.loop-i.invariant c.loop-i-test.false
