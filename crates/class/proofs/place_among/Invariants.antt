use Rattle.class.specs.laws.Names.{Searched}
use Rattle.class.proofs.place_among.Given as goal

abbrev pub invariant-loop-size : goal.invariant-loop-size
invariant-loop-size l = Searched l.name l.m l.start l.most l.low l.size

abbrev pub decreases-loop-size : goal.decreases-loop-size
decreases-loop-size l = l.size
