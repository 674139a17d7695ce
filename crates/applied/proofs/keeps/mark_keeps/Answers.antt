use native.Mathlib.Omega.{arith}
use Rattle.applied.specs.laws.KeepsStates.{mark-absent, mark-keeps}
use Rattle.applied.proofs.keeps.mark_keeps.Goals as goal

pub returns-then-nodes-wide : goal.returns-then-nodes-wide
returns-then-nodes-wide c sat = mark-absent _ sat _ (omega (arith, c.wide.ensures, c.if-nodes-wide.true))

pub node-p-requires : goal.node-p-requires
node-p-requires c = omega (arith, c.wide.ensures, c.if-nodes-wide.false, c.requires)

pub returns : goal.returns
returns c sat =
    mark-keeps _ sat _ (omega (arith, c.wide.ensures, c.if-nodes-wide.false))
    (c.node-p.ensures _ (omega (arith, c.wide.ensures, c.if-nodes-wide.false))) c.is_parts.ensures
