-- What a reply is (document 01, "The reply"). Assumes nothing.
use Rattle.std.specs.Prelude.{ℕ, ◌≡◌, true, false, List, length}
use Rattle.tables.specs.Tables.{Tables}
use Rattle.message.specs.Message.{message_bytes}
use Rattle.negotiation.specs.State.{State}
use Rattle.standing.specs.Turn.{sends}
use Rattle.standing.specs.Holds.{Holds, Unrestored}
use Rattle.numbers.specs.Refusals.{LENGTH, TURN, ENDED}
use Rattle.legal.specs.Updates.{Updates}
use Rattle.reply.specs.Reply.{reply_in, replied_state, reply_size}

-- the call gives the message m and leaves the state A: lengths, tables, soundness, turn and no end allow it, m has the bytes of the commands
-- that the rules yield in order, each a legal update, and A is what they lead to, with its count and end
pub record ReplyGiven (tables negotiation reply scratch m : List ℕ) (A : State) : Type 0 where
  pub sized : reply_size (length reply) (length scratch) ≡ true
  pub house : Tables
  pub state : State
  pub held : Holds tables negotiation house state
  pub going : state.header.end ≡ 0
  pub turn : sends state.header.side state.header.messages ≡ true
  pub bytes : m ≡ message_bytes (reply_in house state).commands
  pub updates : Updates house.names state.header.side state (reply_in house state).commands (reply_in house state).state
  pub after : A ≡ replied_state (reply_in house state)

-- why a reply is refused with k, in the order of "From the state"
pub data ReplyRefused (tables negotiation reply scratch : List ℕ) (k : ℕ) : Type 0 where
  -- "1 a lent length outside the sizes"
  size : reply_size (length reply) (length scratch) ≡ false → k ≡ LENGTH → ReplyRefused tables negotiation reply scratch k
  -- the negotiation's length 1, the tables 1 to 6, "20 negotiation damaged"
  unrestored : reply_size (length reply) (length scratch) ≡ true → Unrestored tables negotiation k
      → ReplyRefused tables negotiation reply scratch k
  -- "22 already ended"
  ended : {T : Tables} {S : State} → reply_size (length reply) (length scratch) ≡ true → Holds tables negotiation T S
      → (S.header.end ≡ 0 → ⊥) → k ≡ ENDED → ReplyRefused tables negotiation reply scratch k
  -- "21 not that side's turn"
  out-of-turn : {T : Tables} {S : State} → reply_size (length reply) (length scratch) ≡ true → Holds tables negotiation T S
      → S.header.end ≡ 0 → sends S.header.side S.header.messages ≡ false → k ≡ TURN
      → ReplyRefused tables negotiation reply scratch k
