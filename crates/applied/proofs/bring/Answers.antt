use native.Mathlib.Omega.{arith}
use Rattle.applied.specs.laws.Step.{step-bring, edges-kept}
use Rattle.applied.proofs.bring.Goals as goal

pub add_edge-requires : goal.add_edge-requires
add_edge-requires c = omega (arith, edges-kept _ _ _ c.add_node.ensures, c.requires.2)

pub returns : goal.returns
returns c side = step-bring _ side _ (c.node-p.ensures _ c.requires.0) c.child_of.ensures c.add_node.ensures c.add_edge.ensures
