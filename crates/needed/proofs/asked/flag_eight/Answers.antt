use mathlib.Core.Path.{ap}
use mathlib.Core.Bool.{not}
use borrow.Author.Tests.{not-true}
use Rattle.needed.specs.laws.Flag.{marked_other}
use Rattle.needed.proofs.asked.flag_eight.Goals as goal

pub returns-then-not-some_head : goal.returns-then-not-some_head
returns-then-not-some_head c = λ r m. marked_other (c.some_head.ensures c.args.p c.key_of-key.ensures (not-true _ (ap not c.if-not-some_head.true))) m
