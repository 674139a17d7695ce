use Prim.Native.Nat.{◌-◌}
use lib.ListN.{length}
use Rattle.class.specs.laws.Names.{names_of}
use Rattle.tables.specs.laws.StoredReading.{ReadingStored}
use Rattle.tables.proofs.stored.read_stored.Given as goal

abbrev pub invariant-loop-at : goal.invariant-loop-at
invariant-loop-at l = ReadingStored (names_of l.names) l.subject l.s l.start l.pool l.last l.at

abbrev pub decreases-loop-at : goal.decreases-loop-at
decreases-loop-at l = length l.s - l.at
