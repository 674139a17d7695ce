use mathlib.Core.Bool.{not}
use Rattle.tables.specs.laws.Tables.{pairs_of}
use Rattle.tables.specs.Lookup.{is_direct}
use Rattle.sending.specs.laws.Picked.{Picked}
use Rattle.sending.proofs.prepared.visible_of.Given as goal

abbrev pub invariant-loop-i : goal.invariant-loop-i
invariant-loop-i l = Picked (λ c. not (is_direct l.house.own (pairs_of l.house.sensitive) c)) l.house.subject l.i l.on
