use mathlib.Core.Path.{sym, ◌∙◌, ap}
use Rattle.word.specs.laws.Bit.{without, without-less}
use Rattle.closure.proofs.worklist.read_word.Goals as goal

pub loop-m-smaller : goal.loop-m-smaller
loop-m-smaller c = rw (c.others-m.ensures ∙ ap (without _) (sym c.lowest.ensures.2)) (without-less _ _ c.lowest.ensures.1)
