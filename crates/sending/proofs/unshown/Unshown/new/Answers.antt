use borrow.Author.Rules.{rules}
use Rattle.sending.specs.laws.Fresh.{fresh_start}
use Rattle.sending.proofs.unshown.Unshown.new.Goals as goal

pub returns : goal.returns
returns c = λ l. fresh_start c.args.own.now l (search rules)
