use Rattle.reply.specs.laws.Outgoing.{Counted}
use Rattle.reply.proofs.carry.count_on.Given as goal

abbrev pub invariant-loop-k : goal.invariant-loop-k
invariant-loop-k l = Counted l.pool l.on l.n l.k
