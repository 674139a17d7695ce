use Rattle.closure.specs.laws.Laws.{word_of}
use Rattle.closure.proofs.rounds.word.Goals as goal

pub returns : goal.returns
returns c = word_of c.args.rules.now _ _ _ _ _ _ _ c.requires.1 c.meet-w.ensures c.links-lo.ensures c.links-hi.ensures
