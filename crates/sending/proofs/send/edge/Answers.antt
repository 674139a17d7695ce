use Prim.Native.Nat.{ℕ}
use native.Mathlib.Omega.{arith}
use mathlib.Core.Path.{◌≡◌, ◌∙◌, ap}
use Rattle.tables.specs.laws.Tables.{tables_of}
use Rattle.tables.specs.Public.{public_of}
use Rattle.graph.specs.Graph.{node_in}
use Rattle.graph.specs.laws.Graph.{nodes_of}
use Rattle.negotiation.specs.laws.State.{state_of}
use Rattle.negotiation.specs.laws.Within.{within-few}
use Rattle.moves.specs.Rules.{end_in}
use Rattle.sending.specs.laws.Edge.{edge_other, edge-direct, edge-needed}
use Rattle.sending.proofs.send.edge.Goals as goal
use Rattle.sending.proofs.send.edge.Goals.{After-node-x}

child : (c : After-node-x) → c.node-x.result ≡ node_in (nodes_of c.args.n.now.nodes) c.args.i
child c = c.node-x.ensures c.args.n.now.nodes.count (omega (arith, c.requires.2, c.wide.ensures)) ∙ ap (λ (k : ℕ). node_in (nodes_of c.args.n.now.nodes) k) c.wide.ensures

pub edge_command-command-requires : goal.edge_command-command-requires
edge_command-command-requires c = (c.requires.0.housed.names, c.requires.0.housed.ascending, (within-few c.args.n.now c.requires.1).0)

pub returns-then-w-ne-IMPLICATION-clause-sent : goal.returns-then-w-ne-IMPLICATION-clause-sent
unfolding end_in public_of tables_of state_of
returns-then-w-ne-IMPLICATION-clause-sent c = edge_other _ _ _ c.edge_command-command.ensures c.if-w-ne-IMPLICATION.true c.alone.ensures

pub node-x-requires : goal.node-x-requires
node-x-requires c = omega (arith, c.requires.2, c.wide.ensures, (within-few c.args.n.now c.requires.1).0)

pub direct_for-requires : goal.direct_for-requires
direct_for-requires c = (within-few c.args.n.now c.requires.1).2

pub returns-then-w-clause-sent : goal.returns-then-w-clause-sent
unfolding end_in public_of tables_of state_of
returns-then-w-clause-sent c = edge-direct _ _ _ c.edge_command-command.ensures (child c.before.before) c.if-w-ne-IMPLICATION.false c.if-w.true c.direct_for.ensures

pub needed_for-requires : goal.needed_for-requires
needed_for-requires c = (c.requires.0, (within-few c.args.n.now c.requires.1).2, c.requires.3)

pub returns-clause-sent : goal.returns-clause-sent
unfolding end_in public_of tables_of state_of
returns-clause-sent c = edge-needed _ _ _ c.edge_command-command.ensures (child c.before.before.before) c.if-w-ne-IMPLICATION.false c.if-w.false c.needed_for.ensures.sent
