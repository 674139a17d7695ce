use Rattle.closure.specs.laws.Laws.{links-grown}
use Rattle.closure.proofs.word_worklist.follow_links.Goals as goal

pub returns : goal.returns
returns c = λ l. links-grown c.args.rules.now _ _ _ _ _ c.args.set _ c.requires.1 l c.told-rows c.if-rules-i.false c.if-on-i-ne1.false
    c.gathered.ensures
