use Rattle.negotiation.specs.laws.State.{state_of}
use Rattle.choice.specs.laws.Sensitive.{by-waiting, satisfied-flag}
use Rattle.choice.proofs.sensitive.by_known.Goals as goal

pub returns-in-Waiting : goal.returns-in-Waiting
unfolding state_of
returns-in-Waiting c =
    by-waiting (state_of c.args.p.now.negotiation.now) _ c.args.p.now.number c.args.p.now.node c.args.rest c.in-Waiting.is
    (satisfied-flag (state_of c.args.p.now.negotiation.now) c.requires.2 c.wide.ensures) c.mark_if.ensures c.or_else.ensures
