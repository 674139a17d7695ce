use Rattle.sending.specs.laws.SentLaws.{command-join, command-bring}
use Rattle.sending.proofs.commands.edge_command.Goals as goal

pub returns-then-j-nodes : goal.returns-then-j-nodes
returns-then-j-nodes c = command-join _ _ _ _ _ (c.find-j.ensures c.args.nodes.now.state) c.if-j-nodes.true

pub returns : goal.returns
returns c = command-bring _ _ _ _ _ (c.find-j.ensures c.args.nodes.now.state) c.if-j-nodes.false c.initial_state-state.ensures
