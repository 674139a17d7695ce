-- What a call finds in its tables and its negotiation (document 01, "From the state": "Order: 1, tables 2 to 6 record by record .., 20").
-- Assumes nothing.
use Rattle.std.specs.Prelude.{ℕ, cond, List, eqb, length}
use Rattle.std.proofs.Math.Option.{Option, none, some}
use Rattle.tables.specs.Tables.{Tables}
use Rattle.tables.specs.Check.{read_tables}
use Rattle.negotiation.specs.State.{State}
use Rattle.damage.specs.Damage.{read_sound}
use Rattle.numbers.specs.Answer.{Answer, refused, accepted, onward}
use Rattle.numbers.specs.Refusals.{LENGTH, DAMAGED}
use Rattle.numbers.specs.Sizes.{NEGOTIATION-BYTES}

-- the tables and the negotiation's state, or "20 negotiation damaged"
abbrev pub behind_damage : Tables → Option State → Answer (Tables × State)
behind_damage T none = refused DAMAGED
behind_damage T (some S) = accepted (T, S)

abbrev pub behind_tables : List ℕ → Answer Tables → Answer (Tables × State)
behind_tables negotiation a = onward (λ T. behind_damage T (read_sound T negotiation)) a

-- "negotiation 5,120 exactly"
unfoldable pub restore_of : List ℕ → List ℕ → Answer (Tables × State)
restore_of tables negotiation = cond (eqb (length negotiation) NEGOTIATION-BYTES) (behind_tables negotiation (read_tables tables)) (refused LENGTH)
