-- Why begin is refused, and what an accepted one is (document 01, "The reply", "From the input"). Assumes nothing.
use Rattle.std.specs.Prelude.{ℕ, ◌≡◌, ◌⊎◌, List, length}
use Rattle.tables.specs.Tables.{Tables}
use Rattle.tables.specs.Check.{read_tables}
use Rattle.tables.specs.Refused.{CheckRefused}
use Rattle.negotiation.specs.State.{State}
use Rattle.begin.specs.Begin.{begun_state}
use Rattle.numbers.specs.Answer.{accepted}
use Rattle.numbers.specs.Refusals.{LENGTH, OPERAND, OTHER}
use Rattle.numbers.specs.Sizes.{NEGOTIATION-BYTES}

-- "negotiation 5,120 exactly", and the tables are accepted as T
pub record Lent (tables negotiation : List ℕ) (T : Tables) : Type 0 where
  pub size : length negotiation ≡ NEGOTIATION-BYTES
  pub house : read_tables tables ≡ accepted T

-- a role that may be wanted
pub data Wanted (entity name : ℕ) : Type 0 where
  -- "both zero makes us the requester"
  requester : entity ≡ 0 → name ≡ 0 → Wanted entity name
  -- "the wanted role, entity and name"
  mediator : (entity ≡ 0 → ⊥) → (name ≡ 0 → ⊥) → Wanted entity name

-- "just one zero in the role"
pub data OneZero (entity name : ℕ) : Type 0 where
  zero-entity : entity ≡ 0 → (name ≡ 0 → ⊥) → OneZero entity name
  zero-name : (entity ≡ 0 → ⊥) → name ≡ 0 → OneZero entity name

-- why begin is refused, and k is the number
pub data BeginRefused (tables negotiation : List ℕ) (other entity name k : ℕ) : Type 0 where
  -- "1 a lent length outside the sizes": the negotiation's
  wrong-length : (length negotiation ≡ NEGOTIATION-BYTES → ⊥) → k ≡ LENGTH → BeginRefused tables negotiation other entity name k
  -- the tables' number
  unread : length negotiation ≡ NEGOTIATION-BYTES → CheckRefused tables k → BeginRefused tables negotiation other entity name k
  -- "3 .. at begin just one zero in the role"
  one-zero : {T : Tables} → Lent tables negotiation T → OneZero entity name → k ≡ OPERAND → BeginRefused tables negotiation other entity name k
  -- "7 at begin: other end is zero or self"
  other-end : {T : Tables} → Lent tables negotiation T → Wanted entity name → (other ≡ 0) ⊎ (other ≡ T.own) → k ≡ OTHER
      → BeginRefused tables negotiation other entity name k

-- begin is accepted, and S is the fresh negotiation
pub record Begun (tables negotiation : List ℕ) (other entity name : ℕ) (S : State) : Type 0 where
  pub house : Tables
  pub lent : Lent tables negotiation house
  pub wanted : Wanted entity name
  pub nonzero : other ≡ 0 → ⊥
  pub distinct : other ≡ house.own → ⊥
  pub fresh : S ≡ begun_state house other entity name
