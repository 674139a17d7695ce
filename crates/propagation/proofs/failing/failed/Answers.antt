use native.Mathlib.Omega.{arith}
use Rattle.propagation.specs.laws.FailedLaws.{round-sound, round-last, cnt-few}
use Rattle.propagation.proofs.failing.failed.Goals as goal

pub returns-then-sweep-eq0 : goal.returns-then-sweep-eq0
returns-then-sweep-eq0 c = round-last _ (c.touched-alive.ensures _) (c.touched-hit.ensures _) c.sweep.ensures c.loop-failed.invariant c.if-sweep-eq0.true

pub loop-failed-smaller : goal.loop-failed-smaller
loop-failed-smaller c = omega (arith, c.sweep.ensures.counted, cnt-few c.sweep.new.failed)

pub loop-failed-preserved : goal.loop-failed-preserved
loop-failed-preserved c = round-sound _ (c.touched-alive.ensures _) (c.touched-hit.ensures _) c.sweep.ensures c.loop-failed.invariant
