use mathlib.Core.Path.{sym, ap}
use mathlib.Core.Bool.{Bool, cond}
use borrow.Author.Tests.{lt-ltb, le-ltb}
use Rattle.reply.proofs.turns.larger.Goals as goal

pub returns-then-a-b : goal.returns-then-a-b
returns-then-a-b c = sym (ap (λ (x : Bool). cond x c.args.b c.args.a) (lt-ltb c.args.a c.args.b c.if-a-b.true))

pub returns-else-a-b : goal.returns-else-a-b
returns-else-a-b c = sym (ap (λ (x : Bool). cond x c.args.b c.args.a) (le-ltb c.args.a c.args.b c.if-a-b.false))
