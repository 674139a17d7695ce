use native.Mathlib.Omega.{arith}
use mathlib.Core.Path.{refl}
use Rattle.states.specs.laws.Filled.{needs-start, needs-add, needs-all}
use Rattle.states.proofs.fill.needs.Goals as goal

pub loop-i-init : goal.loop-i-init
loop-i-init c o = needs-start _

pub loop-i-preserved : goal.loop-i-preserved
loop-i-preserved c o = needs-add _ (omega arith) refl c.need_of.ensures (c.loop-i.invariant o)

pub returns : goal.returns
returns c o = needs-all _ (omega arith) (omega arith) (c.loop-i.invariant o)
