use mathlib.Core.Path.{refl}
use native.Mathlib.Omega.{arith}
use Rattle.graph.specs.laws.Find.{has_edge_to, edge_more, edge-all}
use Rattle.graph.proofs.Edges.has.Goals as goal

pub loop-j-init : goal.loop-j-init
unfolding has_edge_to
loop-j-init c = refl

pub loop-j-preserved : goal.loop-j-preserved
loop-j-preserved c = edge_more _ _ _ c.loop-j.invariant c.is_edge-found.ensures

pub returns : goal.returns
returns c = edge-all _ _ c.loop-j.j c.loop-j.invariant (omega arith)
