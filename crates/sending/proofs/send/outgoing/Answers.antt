use Rattle.sending.specs.laws.Edge.{sent-edge, sent-mark}
use Rattle.sending.proofs.send.outgoing.Goals as goal

pub returns-in-Edge-clause-sent : goal.returns-in-Edge-clause-sent
returns-in-Edge-clause-sent c = sent-edge _ _ c.in-Edge.is c.edge.ensures.sent

pub returns-in-Mark-clause-sent : goal.returns-in-Mark-clause-sent
returns-in-Mark-clause-sent c = sent-mark _ _ c.in-Mark.is c.alone.ensures
