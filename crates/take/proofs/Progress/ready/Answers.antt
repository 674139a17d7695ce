use mathlib.Core.Path.{ap}
use mathlib.Core.Bool.{not}
use Rattle.negotiation.specs.laws.Within.{within-few}
use Rattle.take.specs.laws.Progress.{ready-left, ready_made}
use Rattle.take.proofs.Progress.ready.Goals as goal

pub returns-then-not-self-is_linking : goal.returns-then-not-self-is_linking
returns-then-not-self-is_linking c =
    ready-left _ _ _ c.is_implication.ensures c.requires.2 c.is_linking.ensures (ap not c.if-not-self-is_linking.true)

pub satisfied_nodes-self-requires : goal.satisfied_nodes-self-requires
satisfied_nodes-self-requires c = ((within-few _ c.requires.0).0, (within-few _ c.requires.0).1, c.requires.1)

pub is_inside-requires : goal.is_inside-requires
is_inside-requires c = (within-few _ c.requires.0).1

pub returns : goal.returns
returns c = ready_made _ _ _ c.is_implication.ensures _ _ c.satisfied_nodes-self.ensures c.is_inside.ensures
