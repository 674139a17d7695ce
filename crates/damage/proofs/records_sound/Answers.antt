use mathlib.Core.Path.{ap}
use mathlib.Core.Bool.{not}
use Rattle.damage.specs.laws.Damage.{records-nodes, records-primary, records-shown}
use Rattle.damage.proofs.records_sound.Goals as goal

pub returns-then-not-nodes_fit : goal.returns-then-not-nodes_fit
returns-then-not-nodes_fit c = λ es. records-nodes _ _ c.nodes_fit.ensures (ap not c.if-not-nodes_fit.true)

pub returns-then-not-primary_sound : goal.returns-then-not-primary_sound
returns-then-not-primary_sound c = λ es. records-primary _ _ c.nodes_fit.ensures (ap not c.if-not-nodes_fit.false) (c.node.ensures _ c.requires.2)
    c.primary_sound.ensures (ap not c.if-not-primary_sound.true)

pub returns : goal.returns
returns c = λ es. records-shown _ _ c.nodes_fit.ensures (ap not c.if-not-nodes_fit.false) (c.node.ensures _ c.requires.2)
    c.primary_sound.ensures (ap not c.if-not-primary_sound.false) c.shown_fit.ensures
