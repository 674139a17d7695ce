use native.Mathlib.Omega.{arith}
use mathlib.Core.Path.{ap}
use Rattle.record.specs.declared.Pair.{Pair}
use Rattle.candidates.specs.laws.Offers.{folded_start, folded-next, folded-all}
use Rattle.candidates.specs.laws.Goals.{pair-named}
use Rattle.candidates.proofs.Place.with_pairs.Goals as goal

pub loop-k-init : goal.loop-k-init
loop-k-init c others = folded_start _ _

pub loop-k-preserved : goal.loop-k-preserved
loop-k-preserved c others = folded-next _ _ (c.loop-k.invariant others)
    (pair-named _ _ _ _ _ _ (ap (λ (p : Pair). p.role) c.pair.ensures) c.with_named-best.ensures)

pub returns : goal.returns
returns c others = folded-all _ _ (c.loop-k.invariant others) (omega arith) (omega arith)
