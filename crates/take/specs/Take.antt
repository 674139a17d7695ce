-- Take a message (document 01, "Sizes", "From the state" and "The reply"). Assumes nothing.
use Rattle.std.specs.Prelude.{ℕ, Bool, not, cond, false, ◌&&◌, List, eqb, leb, length}
use Rattle.tables.specs.Tables.{Tables}
use Rattle.negotiation.specs.State.{State}
use Rattle.standing.specs.Standing as R
use Rattle.applied.specs.After.{after_message}
use Rattle.take.specs.Commands as C
use Rattle.standing.specs.Turn.{sends, sender_to}
use Rattle.numbers.specs.Refusals.{LENGTH, TURN, ENDED}
use Rattle.numbers.specs.Sizes.{MOST-MESSAGE-BYTES, SCRATCH-BYTES}
use Rattle.numbers.specs.Answer.{Answer, refused, accepted, onward}

-- the end is judged after the message, which is counted for its sender
abbrev pub behind_commands : ℕ → Answer (State × Bool) → Answer State
behind_commands sender a = onward (λ x. accepted (after_message sender x.0 x.1 false)) a

-- "22 already ended", "21 not that side's turn", then the commands left to right
unfoldable pub taken_in : List ℕ → Tables → State → Answer State
taken_in message T S =
    cond (not (eqb S.header.end 0)) (refused ENDED)
    (cond (not (sends (sender_to S) S.header.messages)) (refused TURN)
    (behind_commands (sender_to S) (C.commands_from (length message) T.names (sender_to S) message 0 S false)))

abbrev pub behind_standing : List ℕ → Answer (Tables × State) → Answer State
behind_standing message a = onward (λ x. taken_in message x.0 x.1) a

-- "message 1 to 4,096", "scratch 4,096 exactly"
unfoldable pub message_size : ℕ → ℕ → Bool
message_size message scratch = leb 1 message && leb message MOST-MESSAGE-BYTES && eqb scratch SCRATCH-BYTES

-- "Order: 1, tables 2 to 6 record by record .., 20, 22, 21, then commands left to right, each by rising number"
unfoldable pub take_of : List ℕ → List ℕ → List ℕ → List ℕ → Answer State
take_of tables negotiation message scratch =
    cond (message_size (length message) (length scratch)) (behind_standing message (R.restore_of tables negotiation)) (refused LENGTH)
