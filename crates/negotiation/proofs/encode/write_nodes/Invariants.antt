use Rattle.std.specs.Prelude.{◌≡◌}
use Rattle.expression.specs.Bytes.{pasted}
use Rattle.rt0.specs.Pool.{up_to}
use Rattle.graph.specs.laws.Graph.{node_at}
use Rattle.negotiation.specs.Layout.{node_bytes, records}
use Rattle.negotiation.proofs.encode.write_nodes.Given as goal

abbrev pub invariant-loop-i : goal.invariant-loop-i
invariant-loop-i l = l.buf ≡ pasted l.initial.buf 128 (records node_bytes (up_to l.i (node_at l.nodes)))
