use Rattle.std.specs.Prelude.{◌≡◌, ℕ, ◌+◌, ◌*◌}
use Rattle.rt0.specs.Pool.{up_to}
use Rattle.graph.specs.laws.Graph.{edges_of}
use Rattle.negotiation.specs.Layout.{edge_from}
use Rattle.negotiation.proofs.decode.read_edges.Given as goal

abbrev pub invariant-loop-j : goal.invariant-loop-j
invariant-loop-j l = edges_of l.edges ≡ up_to l.j (λ (j : ℕ). edge_from l.s (2944 + j * 3))
