use mathlib.Core.Path.{◌≡◌, refl, ap, ◌∙◌}
use Prim.Native.Nat.{ℕ, ◌+◌, ◌*◌, ◌-◌}
use native.Mathlib.Omega.{arith}
use native.Mathlib.Nat.{le_antisymm}
use mathlib.Core.List.{List, []}
use lib.Seq.{paste-zero}
use Rattle.expression.specs.Bytes.{pasted}
use Rattle.rt0.specs.Pool.{up_to}
use Rattle.graph.specs.declared.Nodes.{Nodes}
use Rattle.graph.specs.laws.Graph.{node_at, nodes_of}
use Rattle.graph.specs.laws.Columns.{node_in_lem}
use Rattle.negotiation.specs.Layout.{node_bytes, records, zeros}
use Rattle.negotiation.specs.laws.Layout.{record-next, part-written, node-size}
use Rattle.negotiation.proofs.encode.write_nodes.Goals as goal

pub loop-i-init : goal.loop-i-init
loop-i-init c = paste-zero c.args.buf.now 128 []

pub loop-i-preserved : goal.loop-i-preserved
loop-i-preserved c = let N : Nodes = c.args.nodes.now in
    let i : ℕ = c.loop-i.i in
    let x : c.node.result ≡ node_at N i = c.node.ensures _ c.loop-i-test.true ∙ node_in_lem N i c.loop-i-test.true in
    c.write_node.ensures
    ∙ (λ t. pasted (c.loop-i.invariant t) (128 + i * 22) (node_bytes (x t)))
    ∙ record-next node_bytes 22 node-size c.args.buf.now 128 i (node_at N) (omega arith)

pub returns : goal.returns
unfolding nodes_of
returns c = let N : Nodes = c.args.nodes.now in
    let n : ℕ = N.count in
    let all : c.loop-i.i ≡ n = le_antisymm c.loop-i.auto.i-end c.loop-i-test.false in
    c.write_zeros.ensures
    ∙ ap (λ (l : List ℕ). pasted l (128 + n * 22) (zeros (2944 - (128 + n * 22))))
    (c.loop-i.invariant ∙ ap (λ (m : ℕ). pasted c.args.buf.now 128 (records node_bytes (up_to m (node_at N)))) all)
    ∙ part-written node_bytes 22 node-size c.args.buf.now 128 (128 + n * 22) 2944 n (node_at N) refl (omega arith) (omega arith)
