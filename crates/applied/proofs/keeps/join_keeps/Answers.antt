use native.Mathlib.Omega.{arith}
use Rattle.applied.specs.laws.KeepsStates.{join-absent, join-keeps}
use Rattle.applied.proofs.keeps.join_keeps.Goals as goal

pub returns-then-nodes-wide : goal.returns-then-nodes-wide
returns-then-nodes-wide c = join-absent _ _ _ (omega (arith, c.wide.ensures, c.if-nodes-wide.true))

pub node-p-requires : goal.node-p-requires
node-p-requires c = omega (arith, c.wide.ensures, c.if-nodes-wide.false, c.requires)

pub returns : goal.returns
returns c =
    join-keeps _ _ _ (omega (arith, c.wide.ensures, c.if-nodes-wide.false))
    (c.node-p.ensures _ (omega (arith, c.wide.ensures, c.if-nodes-wide.false))) c.is_flagged-child.ensures c.is_flagged-parent.ensures
    c.brings_nothing.ensures
