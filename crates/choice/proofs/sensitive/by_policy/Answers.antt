use mathlib.Core.Path.{ap}
use mathlib.Core.Bool.{not}
use Rattle.negotiation.specs.laws.State.{state_of}
use Rattle.choice.specs.laws.Sensitive.{policy-waits, satisfied-flag}
use Rattle.choice.proofs.sensitive.by_policy.Goals as goal

pub returns-then-not-is_acknowledged : goal.returns-then-not-is_acknowledged
unfolding state_of
returns-then-not-is_acknowledged c =
    policy-waits (state_of c.args.p.now.negotiation.now) _ c.args.p.now.number c.args.p.now.node c.args.rest c.args.r c.control_edge.ensures
    c.alone-control.ensures c.is_acknowledged.ensures (ap not c.if-not-is_acknowledged.true) (satisfied-flag (state_of c.args.p.now.negotiation.now) c.requires.2 c.wide.ensures)
    c.mark_if.ensures c.or_else.ensures c.or_else-then-not-is_acknowledged.ensures
