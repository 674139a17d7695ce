use mathlib.Core.Path.{◌≡◌}
use Rattle.graph.specs.declared.Nodes.{Nodes}
use Rattle.graph.specs.laws.Graph.{nodes_from}
use Rattle.states.specs.laws.Filled.{Linked}
use Rattle.states.proofs.fill.links.Given as goal

abbrev pub invariant-loop-j : goal.invariant-loop-j
invariant-loop-j l = (l.links.count ≡ l.edges.count) × ((o : Nodes) → Linked (nodes_from l.nodes.count l.nodes.kind l.nodes.number o.subject o.verifier o.state)
    l.edges l.j l.links.from l.links.slot)
