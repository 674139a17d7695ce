use Rattle.closure.specs.laws.Laws.{held_next}
use Rattle.closure.proofs.rounds.held.Goals as goal

pub loop-r-preserved : goal.loop-r-preserved
loop-r-preserved c = held_next c.loop-r.invariant
