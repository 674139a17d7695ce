use borrow.Author.Tests.{le-leb, lt-leb}
use mathlib.Core.Path.{sym, ap}
use mathlib.Core.Bool.{Bool, cond}
use Rattle.negotiation.specs.Layout.{few}
use Rattle.negotiation.proofs.decode.at_most.Goals as goal

pub returns-then-n-most : goal.returns-then-n-most
unfolding few
returns-then-n-most c = sym (ap (λ (b : Bool). cond b c.args.n 0) (le-leb c.args.n c.args.most c.if-n-most.true))

pub returns-else-n-most : goal.returns-else-n-most
unfolding few
returns-else-n-most c = sym (ap (λ (b : Bool). cond b c.args.n 0) (lt-leb c.args.n c.args.most c.if-n-most.false))
