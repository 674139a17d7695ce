use Rattle.begin.specs.Begin.{other_number}
use Rattle.begin.proofs.other_number.Goals as goal

pub returns-then-other-own : goal.returns-then-other-own
unfolding other_number
returns-then-other-own c = rw c.if-other-own.true

pub returns : goal.returns
unfolding other_number
returns c = rw c.if-other-own.false
