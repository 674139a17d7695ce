-- What a take is accepted or refused for (document 01, "From the state"). Assumes nothing.
use Rattle.std.specs.Prelude.{ℕ, ◌≡◌, true, false, List, length}
use Rattle.tables.specs.Tables.{Tables}
use Rattle.message.specs.declared.Command.{Command}
use Rattle.negotiation.specs.State.{State}
use Rattle.standing.specs.Holds.{Holds, Unrestored}
use Rattle.applied.specs.After.{after_message}
use Rattle.standing.specs.Turn.{sends, sender_to}
use Rattle.take.specs.Take.{message_size}
use Rattle.applied.specs.Step.{moved}
use Rattle.legal.specs.Updates.{Carries, RefusedAt}
use Rattle.numbers.specs.Refusals.{LENGTH, TURN, ENDED}

-- the lengths are right, and the tables T and the undamaged state S are what the lent bytes hold
pub record Stands (tables negotiation message scratch : List ℕ) (T : Tables) (S : State) : Type 0 where
  pub sized : message_size (length message) (length scratch) ≡ true
  pub held : Holds tables negotiation T S

-- the negotiation has not ended, and it is the sender's turn
pub record InTurn (S : State) : Type 0 where
  pub going : S.header.end ≡ 0
  pub turn : sends (sender_to S) S.header.messages ≡ true

-- the message holds legal commands and an end, and A is what they lead to, the message counted for its sender and the end judged
pub record Accepted (T : Tables) (S : State) (message : List ℕ) (A : State) : Type 0 where
  pub commands : List Command
  pub led : State
  pub carries : Carries T.names (sender_to S) message S commands led
  pub after : A ≡ after_message (sender_to S) led (moved commands) false

-- why a call is refused with k, in the order of "From the state"
pub data Refusal (tables negotiation message scratch : List ℕ) (k : ℕ) : Type 0 where
  -- "1 a lent length outside the sizes"
  size : message_size (length message) (length scratch) ≡ false → k ≡ LENGTH → Refusal tables negotiation message scratch k
  -- the negotiation's length 1, the tables 1 to 6, "20 negotiation damaged"
  unrestored : message_size (length message) (length scratch) ≡ true → Unrestored tables negotiation k → Refusal tables negotiation message scratch k
  -- "22 already ended"
  ended : {T : Tables} {S : State} → Stands tables negotiation message scratch T S → (S.header.end ≡ 0 → ⊥) → k ≡ ENDED
      → Refusal tables negotiation message scratch k
  -- "21 not that side's turn"
  out-of-turn : {T : Tables} {S : State} → Stands tables negotiation message scratch T S → S.header.end ≡ 0
      → sends (sender_to S) S.header.messages ≡ false → k ≡ TURN → Refusal tables negotiation message scratch k
  -- a command
  stopped : {T : Tables} {S : State} → Stands tables negotiation message scratch T S → InTurn S → RefusedAt T.names (sender_to S) message S k
      → Refusal tables negotiation message scratch k
