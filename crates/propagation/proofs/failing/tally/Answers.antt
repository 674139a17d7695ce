use Prim.Native.Nat.{◌/◌}
use lib.ListN.{get_or}
use mathlib.Core.List.{[]}
use mathlib.Core.Path.{refl}
use native.Mathlib.Omega.{arith}
use Rattle.propagation.specs.laws.FailingLaws.{tally-start, tally-add, tally-skip, tally-all, tally-low}
use Rattle.propagation.specs.laws.Satisfied.{graph_of}
use Rattle.propagation.proofs.failing.tally.Goals as goal
use Rattle.propagation.proofs.failing.tally.Goals.{then-links-j-lt128, else-links-j-lt128}

pub loop-j-init : goal.loop-j-init
loop-j-init c W = tally-start _

pub overflow_add-left : goal.overflow_add-left
overflow_add-left c = omega (
  arith,
  tally-low (c.loop-j.invariant []) (omega arith) (get_or c.args.links.now.slot c.loop-j.j 0 / 4)
      (omega (arith, c.requires.1 c.loop-j.j)),
)

pub loop-j-preserved : goal.loop-j-preserved
loop-j-preserved c W = let g = graph_of c.args.links.now W in
    elim c.if-links-j-lt128.branch [
      | then-links-j-lt128 w ↦ tally-add c.loop-j.j g c.loop-j.left _ _ refl (c.requires.1 _) w.if-links-j-lt128.true w.left-is (c.loop-j.invariant W)
      | else-links-j-lt128 w ↦ tally-skip c.loop-j.j g c.loop-j.left _ w.if-links-j-lt128.false w.left-is (c.loop-j.invariant W)
    ]

pub returns : goal.returns
returns c W = tally-all _ _ _ _ (omega arith) (omega arith) (c.loop-j.invariant W)
