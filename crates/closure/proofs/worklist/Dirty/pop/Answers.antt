use Prim.Native.Nat.{◌<◌}
use native.Mathlib.Omega.{arith}
use mathlib.Core.Path.{sym, ◌∙◌, ap}
use Rattle.word.specs.laws.Bit.{without, without-less}
use Rattle.closure.proofs.worklist.Dirty.pop.Goals as goal

pub returns-then-self-ne0 : goal.returns-then-self-ne0
returns-then-self-ne0 c =
    let l : c.others-self.result < c.args.self.now.lo = rw (c.others-self.ensures ∙ ap (without _) (sym c.lowest-i.ensures.2))
    (without-less _ _ c.lowest-i.ensures.1) in
    (omega arith, omega arith)

pub returns-then-self-ne0-2 : goal.returns-then-self-ne0-2
returns-then-self-ne0-2 c =
    let l : c.others-self-then-self-ne0-2.result < c.args.self.now.hi =
    rw (c.others-self-then-self-ne0-2.ensures ∙ ap (without _) (sym c.lowest-i-then-self-ne0-2.ensures.2))
    (without-less _ _ c.lowest-i-then-self-ne0-2.ensures.1) in
    (omega arith, omega arith)
