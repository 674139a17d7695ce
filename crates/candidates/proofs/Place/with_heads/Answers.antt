use native.Mathlib.Omega.{arith}
use mathlib.Core.Path.{◌∙◌}
use Rattle.candidates.specs.laws.Offers.{folded_start, folded-next, folded-all}
use Rattle.candidates.specs.laws.Goals.{head-off, head-named}
use Rattle.candidates.proofs.Place.with_heads.Goals as goal
use Rattle.candidates.proofs.Place.with_heads.Goals.{then-on-k-eq1, else-on-k-eq1}

pub loop-k-init : goal.loop-k-init
loop-k-init c K N = folded_start _ _

pub loop-k-preserved : goal.loop-k-preserved
loop-k-preserved c K N = elim c.if-on-k-eq1.branch [
  | then-on-k-eq1 w ↦ folded-next _ _ (c.loop-k.invariant K N)
      (w.best-is ∙ head-named _ _ _ _ _ _ _ w.if-on-k-eq1.true w.head.ensures w.with_named-best.ensures)
  | else-on-k-eq1 w ↦ folded-next _ _ (c.loop-k.invariant K N) (w.best-is ∙ head-off _ _ _ _ _ _ _ w.if-on-k-eq1.false)
]

pub returns : goal.returns
returns c K N = folded-all _ _ (c.loop-k.invariant K N) (omega arith) (omega arith)
