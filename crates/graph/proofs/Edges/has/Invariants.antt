use mathlib.Core.Path.{◌≡◌}
use Rattle.graph.specs.laws.Graph.{edges_from}
use Rattle.graph.specs.laws.Find.{has_edge_to}
use Rattle.graph.proofs.Edges.has.Given as goal

abbrev pub invariant-loop-j : goal.invariant-loop-j
invariant-loop-j l = l.found ≡ has_edge_to (edges_from l.m l.self.kind l.self.parent l.self.child) l.x l.j
