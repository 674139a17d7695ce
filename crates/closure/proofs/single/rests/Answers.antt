use mathlib.Core.Path.{refl}
use Rattle.closure.specs.laws.Laws.{rests-full, rests-in}
use Rattle.closure.proofs.single.rests.Goals as goal

pub returns-then-old-lo : goal.returns-then-old-lo
returns-then-old-lo c = λ e. rests-full _ _ _ _ _ _ _ _ e c.told-rows c.requires.6 refl c.if-old-lo.true

pub returns : goal.returns
returns c = λ e. rests-in c.args.rules.now _ _ _ _ _ _ _ _ c.args.set e c.requires.5 c.if-rules-i-ne0.false c.meet-m.ensures
    c.gathered-k.ensures refl refl
