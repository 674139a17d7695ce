use native.Mathlib.Omega.{arith}
use Rattle.applied.specs.laws.KeepsStates.{bring-absent, bring-keeps}
use Rattle.applied.proofs.keeps.bring_keeps.Goals as goal

pub returns-then-nodes-wide : goal.returns-then-nodes-wide
returns-then-nodes-wide c sat = bring-absent _ sat _ (omega (arith, c.wide.ensures, c.if-nodes-wide.true))

pub returns : goal.returns
returns c sat = bring-keeps _ sat _ (omega (arith, c.wide.ensures, c.if-nodes-wide.false)) c.is_entity.ensures
