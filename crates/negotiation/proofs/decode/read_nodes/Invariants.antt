use Rattle.std.specs.Prelude.{◌≡◌, ℕ, ◌+◌, ◌*◌}
use Rattle.rt0.specs.Pool.{up_to}
use Rattle.graph.specs.laws.Graph.{nodes_of}
use Rattle.negotiation.specs.Layout.{node_from}
use Rattle.negotiation.proofs.decode.read_nodes.Given as goal

abbrev pub invariant-loop-i : goal.invariant-loop-i
invariant-loop-i l = nodes_of l.nodes ≡ up_to l.i (λ (i : ℕ). node_from l.s (128 + i * 22))
