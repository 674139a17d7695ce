use mathlib.Core.Path.{ap}
use mathlib.Core.Bool.{not}
use Rattle.legal.specs.laws.Edge.{bring-unformed, bring-there}
use Rattle.legal.proofs.edges.bring_wrong.Goals as goal

pub returns-then-not-formed_as : goal.returns-then-not-formed_as
returns-then-not-formed_as c = λ state S j.
    bring-unformed _ _ _ _ _ _ c.child_of-c.ensures c.formed_as.ensures j (ap not c.if-not-formed_as.true)

pub returns : goal.returns
returns c = λ state S j. bring-there _ _ _ _ _ _ c.child_of-c.ensures c.formed_as.ensures j c.requires (ap not c.if-not-formed_as.false)
    (c.find.ensures state)
