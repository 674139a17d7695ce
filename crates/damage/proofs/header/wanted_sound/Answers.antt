use Rattle.damage.specs.laws.Header.{wanted-none, wanted-role}
use Rattle.damage.proofs.header.wanted_sound.Goals as goal

pub returns-then-side-ne-MEDIATOR : goal.returns-then-side-ne-MEDIATOR
returns-then-side-ne-MEDIATOR c = wanted-none _ _ c.if-side-ne-MEDIATOR.true c.is_empty.ensures

pub returns : goal.returns
returns c = wanted-role _ _ c.if-side-ne-MEDIATOR.false c.is_role.ensures
