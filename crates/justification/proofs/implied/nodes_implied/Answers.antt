use mathlib.Core.Path.{ap}
use mathlib.Core.Bool.{not}
use Rattle.justification.specs.laws.ImpliedLaws.{below_none, below_next, below-stop, below-done}
use Rattle.justification.proofs.implied.nodes_implied.Goals as goal

pub loop-c-init : goal.loop-c-init
loop-c-init c = below_none _ _ _ _

pub returns-then-not-node_implied : goal.returns-then-not-node_implied
returns-then-not-node_implied c = below-stop _ _ _ c.loop-c.invariant c.node_implied.ensures (ap not c.if-not-node_implied.true)

pub loop-c-preserved : goal.loop-c-preserved
loop-c-preserved c = below_next _ _ _ c.loop-c.invariant c.loop-c-test.true c.node_implied.ensures (ap not c.if-not-node_implied.false)

pub returns : goal.returns
returns c = below-done _ _ _ c.loop-c.invariant c.requires.1 c.loop-c-test.false
