use Rattle.std.proofs.Common.{◌≡◌}
use Rattle.rt0.specs.laws.Find.{Missed}
use Rattle.tables.specs.laws.Tables.{pair_at}
use Rattle.tables.specs.laws.Lookup.{is_of}
use Rattle.tables.proofs.Pairs.other_from.Given as goal

abbrev pub invariant-loop-i : goal.invariant-loop-i
invariant-loop-i l = l.start ≡ 0 → Missed (is_of l.r) (pair_at l.self) l.i
