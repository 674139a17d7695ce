use borrow.Author.Rules.{rules}
use Rattle.negotiation.specs.laws.State.{state_of}
use Rattle.choice.specs.laws.Sensitive.{control-verifier}
use Rattle.choice.proofs.sensitive.control_edge.Goals as goal

pub returns : goal.returns
unfolding state_of
returns c = control-verifier (state_of c.args.p.now.negotiation.now) c.args.p.now.node c.args.r (search rules)
