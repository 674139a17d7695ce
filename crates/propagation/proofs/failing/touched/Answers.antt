use mathlib.Core.Path.{refl}
use native.Mathlib.Omega.{arith}
use Rattle.propagation.specs.laws.Satisfied.{graph_of}
use Rattle.propagation.specs.laws.FailedLaws.{touch-start, touch-add-at, touch-skip-at, touch-all}
use Rattle.propagation.proofs.failing.touched.Goals as goal
use Rattle.propagation.proofs.failing.touched.Goals.{then-is_at, else-is_at}

pub loop-j-init : goal.loop-j-init
loop-j-init c W = touch-start _ _ _

pub loop-j-preserved : goal.loop-j-preserved
loop-j-preserved c W = let g = graph_of c.args.links.now W in
    let t = c.is_at in
    elim c.if-is_at.branch [
      | then-is_at w ↦ touch-add-at c.loop-j.j g c.args.failed.now c.args.on _ _ _ _ _ refl (c.requires.1 _) refl t.ensures w.if-is_at.true w.r-is
          (c.loop-j.invariant W)
      | else-is_at w ↦ touch-skip-at c.loop-j.j g c.args.failed.now c.args.on _ _ _ _ refl t.ensures w.if-is_at.false w.r-is (c.loop-j.invariant W)
    ]

pub returns : goal.returns
returns c W = touch-all _ _ _ _ _ _ (omega arith) (omega arith) (c.loop-j.invariant W)
