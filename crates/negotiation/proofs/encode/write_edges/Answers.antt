use mathlib.Core.Path.{◌≡◌, refl, ap, ◌∙◌}
use Prim.Native.Nat.{ℕ, ◌+◌, ◌*◌, ◌-◌}
use native.Mathlib.Omega.{arith}
use native.Mathlib.Nat.{le_antisymm}
use mathlib.Core.List.{List, []}
use lib.Seq.{paste-zero}
use Rattle.expression.specs.Bytes.{pasted}
use Rattle.rt0.specs.Pool.{up_to}
use Rattle.graph.specs.declared.Edges.{Edges}
use Rattle.graph.specs.laws.Graph.{edge_at, edges_of}
use Rattle.graph.specs.laws.Columns.{edge_in_lem}
use Rattle.negotiation.specs.Layout.{edge_bytes, records, zeros}
use Rattle.negotiation.specs.laws.Layout.{record-next, part-written, edge-size}
use Rattle.negotiation.proofs.encode.write_edges.Goals as goal

pub loop-j-init : goal.loop-j-init
loop-j-init c = paste-zero c.args.buf.now 2944 []

pub loop-j-preserved : goal.loop-j-preserved
loop-j-preserved c = let E : Edges = c.args.edges.now in
    let j : ℕ = c.loop-j.j in
    let x : c.edge.result ≡ edge_at E j = c.edge.ensures _ c.loop-j-test.true ∙ edge_in_lem E j c.loop-j-test.true in
    c.write_edge.ensures
    ∙ (λ t. pasted (c.loop-j.invariant t) (2944 + j * 3) (edge_bytes (x t)))
    ∙ record-next edge_bytes 3 edge-size c.args.buf.now 2944 j (edge_at E) (omega arith)

pub returns : goal.returns
unfolding edges_of
returns c = let E : Edges = c.args.edges.now in
    let n : ℕ = E.count in
    let all : c.loop-j.j ≡ n = le_antisymm c.loop-j.auto.j-end c.loop-j-test.false in
    c.write_zeros.ensures
    ∙ ap (λ (l : List ℕ). pasted l (2944 + n * 3) (zeros (3712 - (2944 + n * 3))))
    (c.loop-j.invariant ∙ ap (λ (m : ℕ). pasted c.args.buf.now 2944 (records edge_bytes (up_to m (edge_at E)))) all)
    ∙ part-written edge_bytes 3 edge-size c.args.buf.now 2944 (2944 + n * 3) 3712 n (edge_at E) refl (omega arith) (omega arith)
