use borrow.Author.Rules.{rules}
use Rattle.needed.specs.laws.Keeping.{switched-holds}
use Rattle.needed.proofs.next.Switched.holds_from.Goals as goal

pub ask-requires : goal.ask-requires
ask-requires c =
    (c.requires.0, (c.args.rules.now.words, c.requires.2), c.switch_all.ensures.related c.args.pool.now.heads c.requires.2 c.requires.3)

pub returns : goal.returns
returns c =
    switched-holds c.args.pool.now c.args.self.now.on c.args.f c.args.e c.requires.0 (search rules) c.args.k c.requires.1 _
    c.switch_all.ensures.switched c.ask.ensures
