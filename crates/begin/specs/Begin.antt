-- Begin (document 01, "The reply", "From the input"). Assumes nothing.
use Rattle.std.specs.Prelude.{ℕ, Bool, cond, ◌&&◌, ◌||◌, List, eqb, length}
use Rattle.numbers.specs.Sizes.{NEGOTIATION-BYTES}
use Rattle.rt0.specs.From.{role_of}
use Rattle.tables.specs.Tables.{Tables}
use Rattle.tables.specs.Check.{or_else, read_tables}
use Rattle.negotiation.specs.State.{State, fresh_state}
use Rattle.numbers.specs.Answer.{Answer, refused, accepted, onward, judged}
use Rattle.numbers.specs.Refusals.{LENGTH, OPERAND, OTHER}

-- "both zero makes us the requester"
abbrev pub is_requester : ℕ → ℕ → Bool
is_requester entity name = eqb entity 0 && eqb name 0

-- the wanted role: "3 .. at begin just one zero in the role", or zero
unfoldable pub role_number : ℕ → ℕ → ℕ
role_number entity name =
    cond (is_requester entity name) 0
    (cond (eqb entity 0 || eqb name 0) OPERAND 0)

-- "7 at begin: other end is zero or self", or zero
unfoldable pub other_number : ℕ → ℕ → ℕ
other_number own other = cond (eqb other 0 || eqb other own) OTHER 0

-- "begin's role by 3 .., 7"
unfoldable pub begin_number : Tables → ℕ → ℕ → ℕ → ℕ
begin_number T other entity name = or_else (role_number entity name) (other_number T.own other)

-- the mediator is side 0, the requester side 1
abbrev pub side_of : ℕ → ℕ → ℕ
side_of entity name = cond (is_requester entity name) 1 0

-- "Begin is given the other end and the wanted role, entity and name"
unfoldable pub begun_state : Tables → ℕ → ℕ → ℕ → State
begun_state T other entity name = fresh_state (side_of entity name) T.own other (role_of entity name)

-- a refusal number, or the state of the fresh negotiation
abbrev pub behind_tables : ℕ → ℕ → ℕ → Answer Tables → Answer State
behind_tables other entity name a = onward (λ T. judged (begin_number T other entity name) (accepted (begun_state T other entity name))) a

-- "Order: 1, tables 2 to 6 record by record .., begin's role by 3 .., 7"; of the negotiation only the length counts
unfoldable pub begin_of : List ℕ → List ℕ → ℕ → ℕ → ℕ → Answer State
begin_of tables negotiation other entity name =
    cond (eqb (length negotiation) NEGOTIATION-BYTES) (behind_tables other entity name (read_tables tables)) (refused LENGTH)
