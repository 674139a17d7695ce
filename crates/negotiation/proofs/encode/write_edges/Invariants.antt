use Rattle.std.specs.Prelude.{◌≡◌}
use Rattle.expression.specs.Bytes.{pasted}
use Rattle.rt0.specs.Pool.{up_to}
use Rattle.graph.specs.laws.Graph.{edge_at}
use Rattle.negotiation.specs.Layout.{edge_bytes, records}
use Rattle.negotiation.proofs.encode.write_edges.Given as goal

abbrev pub invariant-loop-j : goal.invariant-loop-j
invariant-loop-j l = l.buf ≡ pasted l.initial.buf 2944 (records edge_bytes (up_to l.j (edge_at l.edges)))
