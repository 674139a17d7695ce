use Rattle.std.proofs.Common.{arith}
use Rattle.word.specs.laws.Bools.{false-true}
use Rattle.applied.specs.laws.KeepsStates.{inside-start, inside-add, inside-all}
use Rattle.applied.proofs.keeps.is_inside.Goals as goal

pub loop-j-init : goal.loop-j-init
loop-j-init c = inside-start _ _

pub returns-then-nodes-wide : goal.returns-then-nodes-wide
returns-then-nodes-wide c = λ h. absurd (false-true h)

pub loop-j-preserved : goal.loop-j-preserved
loop-j-preserved c = inside-add _ _ _ c.loop-j.invariant (omega (arith, c.wide.ensures, c.if-nodes-wide.false))

pub returns : goal.returns
returns c = λ h. inside-all _ _ _ (omega arith) c.loop-j.invariant
