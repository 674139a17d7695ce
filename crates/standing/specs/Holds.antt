-- What the lent bytes hold, and when a negotiation is damaged (document 01, "From the state", 20). Assumes nothing.
use Rattle.std.specs.Prelude.{ℕ, ◌≡◌, true, List, length}
use Rattle.numbers.specs.Sizes.{NEGOTIATION-BYTES}
use Rattle.numbers.specs.Answer.{refused, accepted}
use Rattle.numbers.specs.Refusals.{LENGTH, DAMAGED}
use Rattle.tables.specs.Tables.{Tables}
use Rattle.tables.specs.Check.{read_tables}
use Rattle.negotiation.specs.State.{State, within}
use Rattle.negotiation.specs.Layout.{state_bytes}
use Rattle.damage.specs.Damage.{sound}

-- the lent bytes are those of accepted tables T and of a negotiation S within the sizes that is not damaged
pub record Holds (tables negotiation : List ℕ) (T : Tables) (S : State) : Type 0 where
  pub house : read_tables tables ≡ accepted T
  pub bytes : negotiation ≡ state_bytes S
  pub sizes : within S ≡ true
  pub undamaged : sound T S ≡ true

-- the tables are accepted, and the bytes, as many as they must be, are those of no such state
pub record Damaged (tables negotiation : List ℕ) : Type 0 where
  pub size : length negotiation ≡ NEGOTIATION-BYTES
  pub house : Tables
  pub read : read_tables tables ≡ accepted house
  pub none-held : (S : State) → Holds tables negotiation house S → ⊥

-- why a call finds nothing in its tables and its negotiation, and k is its number
pub data Unrestored (tables negotiation : List ℕ) (k : ℕ) : Type 0 where
  -- "1 a lent length outside the sizes": the negotiation's
  wrong-length : (length negotiation ≡ NEGOTIATION-BYTES → ⊥) → k ≡ LENGTH → Unrestored tables negotiation k
  -- the tables' number
  unread : length negotiation ≡ NEGOTIATION-BYTES → read_tables tables ≡ refused k → Unrestored tables negotiation k
  -- "20 negotiation damaged"
  damaged : Damaged tables negotiation → k ≡ DAMAGED → Unrestored tables negotiation k
