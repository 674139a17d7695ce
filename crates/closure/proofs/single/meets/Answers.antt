use Rattle.closure.specs.laws.Laws.{meet-grown}
use Rattle.closure.proofs.single.meets.Goals as goal

pub returns : goal.returns
returns c = λ M own l. meet-grown _ _ _ _ _ c.args.i _ c.requires.1 l c.told-rows c.if-rules-i.false c.if-on-i-ne1.false c.meet.ensures
