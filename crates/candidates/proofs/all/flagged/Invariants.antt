use Rattle.rules.specs.laws.Table.{chosen}
use Rattle.moves.specs.laws.Stops.{Told}
use Rattle.candidates.specs.laws.All.{is_from}
use Rattle.candidates.proofs.all.flagged.Given as goal

abbrev pub invariant-loop-k : goal.invariant-loop-k
invariant-loop-k l = Told (is_from (chosen l.pool l.on) l.a) l.pool l.k l.r
