use mathlib.Core.Path.{ap}
use mathlib.Core.Bool.{not}
use Rattle.legal.specs.laws.Edge.{join-unformed, join-self, join-there}
use Rattle.legal.proofs.edges.join_wrong.Goals as goal

pub returns-then-not-formed_as : goal.returns-then-not-formed_as
returns-then-not-formed_as c = λ S j. join-unformed _ _ _ _ _ _ c.formed_as.ensures j (ap not c.if-not-formed_as.true)

pub returns-then-e : goal.returns-then-e
returns-then-e c = λ S j.
    join-self _ _ _ _ _ _ c.formed_as.ensures j (ap not c.if-not-formed_as.false) c.if-e.true

pub returns : goal.returns
returns c = λ S j. join-there _ _ _ _ _ _ c.formed_as.ensures j (ap not c.if-not-formed_as.false) c.if-e.false c.has.ensures
