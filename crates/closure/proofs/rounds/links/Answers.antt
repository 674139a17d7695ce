use mathlib.Core.Path.{sym, ◌∙◌, ap}
use Rattle.word.specs.laws.Bit.{without, without-less}
use Rattle.closure.specs.laws.Laws.{links-start, links-next, links-all}
use Rattle.closure.proofs.rounds.links.Goals as goal

pub loop-m-init : goal.loop-m-init
loop-m-init c = links-start _ _ _ _ _ _ _

pub loop-m-smaller : goal.loop-m-smaller
loop-m-smaller c =
    rw (c.others-m.ensures ∙ ap (without _) (sym c.lowest.ensures.2))
    (without-less _ _ c.lowest.ensures.1)

pub loop-m-preserved : goal.loop-m-preserved
loop-m-preserved c =
    links-next _ _ _ _ _ _ _ _ _ _ c.lowest.ensures.0 c.lowest.ensures.1 _ c.bit.ensures _ _
    (c.others-m.ensures ∙ ap (without _) (sym c.lowest.ensures.2)) c.with-w.ensures c.loop-m.invariant

pub returns : goal.returns
returns c = links-all _ _ _ _ _ _ _ _ _ c.loop-m-test.false c.loop-m.invariant
