use mathlib.Core.Path.{ap}
use mathlib.Core.Bool.{not}
use Prim.Native.Nat.{ℕ, ◌+◌, ◌<◌}
use native.Mathlib.Omega.{arith}
use Rattle.graph.specs.declared.Nodes.{Nodes}
use Rattle.graph.specs.laws.Graph.{nodes_from}
use Rattle.damage.specs.laws.Records.{node-unsound, node-new}
use Rattle.damage.proofs.nodes.node_fits.Goals as goal

-- the columns of N, as of i nodes
abbrev first : Nodes → ℕ → Nodes
first N i = nodes_from i N.kind N.number N.subject N.verifier N.state

below : (i : ℕ) → i < i + 1
below i = omega arith

pub returns-then-not-node_sound : goal.returns-then-not-node_sound
returns-then-not-node_sound c =
    node-unsound _ (first c.args.nodes.now (c.args.i + 1)) (first c.args.nodes.now c.args.i) (below c.args.i) (c.node-x.ensures _ (below c.args.i))
    c.node_sound.ensures (ap not c.if-not-node_sound.true)

pub returns : goal.returns
returns c =
    node-new _ (first c.args.nodes.now (c.args.i + 1)) (first c.args.nodes.now c.args.i) (below c.args.i) (c.node-x.ensures _ (below c.args.i))
    c.node_sound.ensures (omega arith) (ap not c.if-not-node_sound.false) (c.find.ensures _)
