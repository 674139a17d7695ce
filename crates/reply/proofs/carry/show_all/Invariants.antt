use Rattle.negotiation.specs.laws.State.{state_of}
use Rattle.reply.specs.laws.Carry.{Showing}
use Rattle.reply.proofs.carry.show_all.Given as goal

abbrev pub invariant-loop-k : goal.invariant-loop-k
invariant-loop-k l = Showing l.pool l.on (state_of l.initial.n) l.initial.s l.initial.at (state_of l.n) l.s l.at l.k
