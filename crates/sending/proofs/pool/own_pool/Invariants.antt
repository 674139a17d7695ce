use Rattle.sending.specs.laws.Behind.{Behind}
use Rattle.sending.proofs.pool.own_pool.Given as goal

abbrev pub invariant-loop-i : goal.invariant-loop-i
invariant-loop-i l = Behind l.initial.all l.set l.flags l.i l.all
