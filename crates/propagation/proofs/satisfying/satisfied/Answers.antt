use native.Mathlib.Omega.{arith}
use Rattle.propagation.specs.laws.WorkLaws.{settled_at}
use Rattle.propagation.proofs.satisfying.satisfied.Goals as goal

pub loop-j-init : goal.loop-j-init
loop-j-init c = c.new-settling.ensures _ _ c.requires.2

pub returns : goal.returns
returns c = settled_at (omega arith) (omega arith) c.loop-j.invariant.1
