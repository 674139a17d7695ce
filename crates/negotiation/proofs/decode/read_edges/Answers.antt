use mathlib.Core.Path.{ap}
use Prim.Native.Nat.{ℕ, ◌+◌, ◌*◌}
use native.Mathlib.Omega.{arith}
use lib.ListN.{length}
use Rattle.rt0.specs.laws.Added.{length-up_to}
use Rattle.graph.specs.laws.Columns.{edges-length}
use Rattle.negotiation.specs.Layout.{edge_from}
use Rattle.negotiation.proofs.decode.read_edges.Goals as goal

-- as many were pushed as were read
pub push-requires : goal.push-requires
push-requires c =
    omega (arith, edges-length c.loop-j.edges, ap length c.loop-j.invariant, length-up_to c.loop-j.j (λ (j : ℕ). edge_from c.args.s.now (2944 + j * 3)))
