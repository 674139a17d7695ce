use Rattle.sending.specs.laws.Fresh.{fresh-now, fresh-after}
use Rattle.sending.proofs.unshown.refresh.Goals as goal

pub returns-then-seen-shown : goal.returns-then-seen-shown
returns-then-seen-shown c = λ on h. fresh-now _ _ h c.if-seen-shown.true

pub returns : goal.returns
returns c = λ on h. fresh-after _ _ h c.loop-i.invariant c.loop-i-test.false
