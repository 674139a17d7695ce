use Rattle.rt0.specs.laws.Find.{Missed}
use Rattle.graph.specs.laws.Graph.{edge_at}
use Rattle.states.specs.laws.Complete.{is_unknown}
use Rattle.states.proofs.has_open.Given as goal

abbrev pub invariant-loop-j : goal.invariant-loop-j
invariant-loop-j l = Missed (is_unknown l.n l.states.satisfied l.states.failed l.i) (edge_at l.edges) l.j
