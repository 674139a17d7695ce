use native.Mathlib.Omega.{arith}
use mathlib.Core.Path.{refl}
use Rattle.states.specs.laws.Filled.{ways-start, ways-add, ways-all}
use Rattle.states.proofs.fill.ways.Goals as goal

pub loop-i-init : goal.loop-i-init
loop-i-init c o = ways-start _

pub loop-i-preserved : goal.loop-i-preserved
loop-i-preserved c o = ways-add _ (omega arith) refl c.way_of.ensures (c.loop-i.invariant o)

pub returns : goal.returns
returns c o = ways-all _ (omega arith) (omega arith) (c.loop-i.invariant o)
