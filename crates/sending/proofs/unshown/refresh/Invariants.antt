use Rattle.needed.specs.laws.Needed.{rest_of}
use Rattle.sending.specs.laws.Fresh.{Refreshed}
use Rattle.sending.proofs.unshown.refresh.Given as goal

abbrev pub invariant-loop-i : goal.invariant-loop-i
invariant-loop-i l = Refreshed (rest_of l.shown l.seen) l.set l.initial.flags l.i l.flags
