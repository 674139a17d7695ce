use Prim.Native.Nat.{◌-◌}
use lib.ListN.{length}
use Rattle.tables.specs.laws.Reading.{judged_by}
use Rattle.tables.specs.laws.PairsReading.{ReadingPairs}
use Rattle.tables.proofs.House.read_pairs.Given as goal

abbrev pub invariant-loop-at : goal.invariant-loop-at
invariant-loop-at l = ReadingPairs (judged_by l.self) l.access l.s l.start l.pairs l.last l.at

abbrev pub decreases-loop-at : goal.decreases-loop-at
decreases-loop-at l = length l.s - l.at
