use Rattle.justification.specs.laws.Linked.{Monitoring}
use Rattle.justification.proofs.linked.links_justified.Given as goal

abbrev pub invariant-loop-j : goal.invariant-loop-j
invariant-loop-j l =
    Monitoring l.nodes l.edges l.links.from l.links.slot l.need l.settling.chains.head l.settling.chains.next l.settling.work.got
    l.settling.work.sat l.settling.work.queue l.settling.work.tail l.j
