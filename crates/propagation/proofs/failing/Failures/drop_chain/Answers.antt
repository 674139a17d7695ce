use Prim.Native.Nat.{◌-◌}
use native.Mathlib.Omega.{arith}
use Rattle.propagation.proofs.failing.Failures.drop_chain.Goals as goal

pub drop_edge-requires : goal.drop_edge-requires
drop_edge-requires c = let was = c.loop-h.invariant.1 c.requires.2.0 c.requires.2.1 c.requires.2.2 in
    (c.loop-h.invariant.0, (c.requires.2.0, omega arith, was.1))

pub offset_bounds-chains-j : goal.offset_bounds-chains-j
offset_bounds-chains-j c = let was = c.loop-h.invariant.1 c.requires.2.0 c.requires.2.1 c.requires.2.2 in
    omega (arith, was.1.few)

pub bounds-chains-j : goal.bounds-chains-j
bounds-chains-j c = let was = c.loop-h.invariant.1 c.requires.2.0 c.requires.2.1 c.requires.2.2 in
    omega (arith, was.1.few)

pub loop-h-preserved : goal.loop-h-preserved
loop-h-preserved c = (
  c.drop_edge.ensures.0,
  λ m l w. let was = c.loop-h.invariant.1 m l w in (omega (arith, c.requires.1 (c.loop-h.h - 1)), c.drop_edge.ensures.1 m (omega arith) was.1),
)

pub returns : goal.returns
returns c = (c.loop-h.invariant.0, λ m l w. (c.loop-h.invariant.1 m l w).1)
