use mathlib.Core.Path.{refl}
use Rattle.justification.specs.laws.ImpliedLaws.{children-none, children-add, children-skip, children-all}
use Rattle.justification.proofs.implied.children.Goals as goal
use Rattle.justification.proofs.implied.children.Goals.{then-edges-j-eq-IMPLICATION, else-edges-j-eq-IMPLICATION}

pub loop-j-init : goal.loop-j-init
loop-j-init c = children-none _ _

pub loop-j-preserved : goal.loop-j-preserved
loop-j-preserved c = elim c.if-edges-j-eq-IMPLICATION.branch [
  | then-edges-j-eq-IMPLICATION w ↦ children-add _ _ c.loop-j.invariant refl (c.requires.1 _ c.loop-j-test.true) w.r-is
  | else-edges-j-eq-IMPLICATION w ↦ children-skip _ _ c.loop-j.invariant w.if-edges-j-eq-IMPLICATION.false w.r-is
]

pub returns : goal.returns
returns c = children-all _ _ c.loop-j.invariant _ c.loop-j.auto.j-end c.loop-j-test.false
