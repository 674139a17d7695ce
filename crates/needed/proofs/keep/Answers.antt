use Prim.Native.Nat.{◌<◌}
use native.Mathlib.Omega.{arith}
use Rattle.needed.specs.laws.Keeping.{keep-start, keep-done, keep_all, keep-next, keep-last}
use Rattle.needed.proofs.keep.Goals as goal
use Rattle.needed.proofs.keep.Goals.{Else-k-n-2}

below : (c : Else-k-n-2) → c.next_kept-k.result < c.args.pool.now.count
below c = omega (arith, c.if-k-n.false, c.if-k-n-2.false)

pub loop-f-init : goal.loop-f-init
loop-f-init c = (keep-start c.args.pool.now c.requires.0 c.args.s c.args.f c.args.e _ c.requires.1 c.requires.3, c.requires.4)

pub returns-then-k-n : goal.returns-then-k-n
returns-then-k-n c =
    keep_all c.args.pool.now c.requires.0 c.args.s c.args.f c.args.e _ _ _ c.loop-f.invariant.0 _ _ c.next_kept-k.ensures.last
    c.if-k-n.true c.with_rest.ensures

pub returns-then-k-n-2 : goal.returns-then-k-n-2
returns-then-k-n-2 c =
    keep-done c.args.pool.now c.requires.0 c.args.s c.args.f c.args.e _ _ _ c.loop-f.invariant.0 _ c.next_kept-k.ensures.last
    c.if-k-n-2.true

pub returns-then-k-n-3 : goal.returns-then-k-n-3
returns-then-k-n-3 c =
    keep-last c.args.pool.now c.requires.0 c.args.s c.args.f c.args.e _ _ _ c.loop-f.invariant.0 _ c.next_kept-k.ensures.last
    c.if-k-n-3.true

pub loop-f-preserved : goal.loop-f-preserved
loop-f-preserved c = (
  keep-next c.args.pool.now c.requires.0 c.args.s c.args.f c.args.e _ _ _ c.loop-f.invariant.0 _ _ c.next_kept-k.ensures.last
      (below c.before) (c.next_kept-k.ensures.switched (below c.before)),
  c.next_kept-k.ensures.related (below c.before),
)
