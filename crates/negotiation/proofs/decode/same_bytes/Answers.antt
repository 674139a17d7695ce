use mathlib.Core.Path.{refl}
use Rattle.negotiation.specs.Layout.{same_bytes}
use Rattle.negotiation.specs.laws.Read.{same_step, same-all}
use Rattle.negotiation.proofs.decode.same_bytes.Goals as goal

pub loop-i-init : goal.loop-i-init
unfolding same_bytes
loop-i-init c = refl

pub loop-i-preserved : goal.loop-i-preserved
loop-i-preserved c = same_step c.loop-i.i c.args.a.now c.args.b.now c.loop-i.same c.loop-i-test.true c.requires c.loop-i.invariant

pub returns : goal.returns
returns c = same-all c.loop-i.i c.args.a.now c.args.b.now c.loop-i.same c.loop-i-test.false c.requires c.loop-i.invariant
