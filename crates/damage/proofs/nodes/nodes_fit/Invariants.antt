use Rattle.class.specs.laws.Names.{names_of}
use Rattle.graph.specs.laws.Graph.{node_at}
use Rattle.damage.specs.Records.{node_fits}
use Rattle.damage.specs.laws.Turns.{Judged}
use Rattle.damage.proofs.nodes.nodes_fit.Given as goal

abbrev pub invariant-loop-i : goal.invariant-loop-i
invariant-loop-i l = Judged (node_fits (names_of l.names)) (node_at l.nodes) l.nodes.count l.i
