use mathlib.Core.Path.{ap}
use Prim.Native.Nat.{ℕ, ◌+◌, ◌*◌}
use native.Mathlib.Omega.{arith}
use lib.ListN.{length}
use Rattle.rt0.specs.laws.Added.{length-up_to}
use Rattle.graph.specs.laws.Columns.{nodes-length}
use Rattle.negotiation.specs.Layout.{node_from}
use Rattle.negotiation.proofs.decode.read_nodes.Goals as goal

-- as many were pushed as were read
pub push-requires : goal.push-requires
push-requires c =
    omega (arith, nodes-length c.loop-i.nodes, ap length c.loop-i.invariant, length-up_to c.loop-i.i (λ (i : ℕ). node_from c.args.s.now (128 + i * 22)))
