use Rattle.std.proofs.Common.{◌≡◌}
use Rattle.rt0.specs.Decide.{from?}
use Rattle.rules.specs.laws.Table.{chosen}
use Rattle.measure.specs.laws.Repeated.{count_of}
use Rattle.measure.proofs.ask_times.Given as goal

abbrev pub invariant-loop : goal.invariant-loop
invariant-loop l = l.yes ≡ count_of (from? (chosen l.pool l.on) l.f l.e) l.counter
