use native.Mathlib.Omega.{arith}
use Prim.Native.Nat.{ℕ}
use mathlib.Core.Path.{◌≡◌, ap}
use lib.Dec.{eqb}
use lib.ListN.{get_or, length}
use Rattle.applied.specs.laws.KeepsStates.{past-none}
use borrow.Author.Rules.{rules}
use Rattle.applied.proofs.keeps.is_flagged.Goals as goal
use Rattle.applied.proofs.keeps.is_flagged.Goals.{Start}

sized : (c : Start) → length c.args.sat.now ≡ 128
sized c = search rules

pub returns-then-wide-ge128 : goal.returns-then-wide-ge128
returns-then-wide-ge128 c =
    past-none c.args.sat.now c.args.i (sized c.before.before)
    (omega (arith, c.wide.ensures, c.if-wide-ge128.true))

pub bounds-sat-wide : goal.bounds-sat-wide
bounds-sat-wide c = omega (arith, c.wide-2.ensures, c.wide.ensures, c.if-wide-ge128.false)

pub returns : goal.returns
returns c = ap (λ (k : ℕ). eqb (get_or c.args.sat.now k 0) 1) c.wide-2.ensures
