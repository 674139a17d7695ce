-- The reply (document 01, "The reply"). Assumes nothing.
use Rattle.std.specs.Prelude.{ℕ, zero, suc, ◌+◌, Bool, true, false, not, cond, ◌&&◌, List, [], ◌∷◌, ◌++◌, eqb, leb, length, drop}
use Rattle.expression.specs.declared.Expression.TheVariants as E
use Rattle.tables.specs.Tables.{Tables}
use Rattle.graph.specs.Propagated.{propagated_state as propagated}
use Rattle.message.specs.declared.Command.{Command}
use Rattle.message.specs.declared.Command.TheVariants.{Open}
use Rattle.negotiation.specs.State.{State}
use Rattle.negotiation.specs.Layout.{state_bytes}
use Rattle.standing.specs.Standing as R
use Rattle.applied.specs.After.{after_message}
use Rattle.message.specs.Message.{bytes_of, message_bytes}
use Rattle.applied.specs.Step.{moved}
use Rattle.standing.specs.Turn.{sends}
use Rattle.moves.specs.Initial.{initial_state}
use Rattle.moves.specs.Rules.{end_in}
use Rattle.moves.specs.Move.{Move, next_move}
use Rattle.moves.specs.Carried.{carried, has_room_for}
use Rattle.numbers.specs.Answer.{Answer, refused, accepted, onward, buffer_after}
use Rattle.numbers.specs.Refusals.{LENGTH, TURN, ENDED}
use Rattle.numbers.specs.Sizes.{MOST-MESSAGE-BYTES, LEAST-REPLY-BYTES, SCRATCH-BYTES}

-- the commands so far, the state that they lead to, and whether it stopped on a size
pub record Replied : Type 0 where
  pub commands : List Command
  pub state : State
  pub full : Bool

abbrev pub stopped : List Command → State → Bool → Replied
stopped cs S full = record { commands = cs; state = S; full = full }

-- a move that fits is carried out, and the search restarts: "the next move would not fit before the end byte within 4,096 bytes, or it would pass
-- a size; the last sets end 4, also together with the one before"
abbrev pub with_move : (State → List Command → Replied) → State → List Command → Move → Replied
with_move next S cs [] = stopped cs S false
with_move next S cs (c ∷ ms) =
    cond (has_room_for S.header.side S (c ∷ ms))
    (cond (leb (length (bytes_of (cs ++ (c ∷ ms))) + 1) MOST-MESSAGE-BYTES) (next (carried S.header.side S (c ∷ ms)) (cs ++ (c ∷ ms))) (stopped cs S false))
    (stopped cs S true)

-- "The reply stops when no move remains, the primary is satisfied, .." The first number is at least that of the moves left.
unfoldable pub reply_from : ℕ → Tables → State → List Command → Replied
reply_from zero T S cs = stopped cs S false
reply_from (suc f) T S cs =
    cond (eqb (propagated S.nodes S.edges 0) 1) (stopped cs S false) (with_move (λ U ds. reply_from f T U ds) S cs (next_move (end_in T S)))

-- "The mediator's first reply starts with open"
abbrev pub opening : Tables → State → List Command
opening T S =
    cond (eqb (length S.nodes) 0) (Open (record { role = S.header.wanted; state = initial_state T.names true (E.Role S.header.wanted) }) ∷ []) []

-- a move has two bytes or more, so there are fewer than 4,096
unfoldable pub reply_in : Tables → State → Replied
reply_in T S = reply_from MOST-MESSAGE-BYTES T (carried S.header.side S (opening T S)) (opening T S)

-- what the reply leaves, counted for our side: "success, failed, stalled, full, in that order"
unfoldable pub replied_state : Replied → State
replied_state r = after_message r.state.header.side r.state (moved r.commands) r.full

-- "Then 0x06 is written"
unfoldable pub reply_bytes : Replied → List ℕ
reply_bytes r = message_bytes r.commands

-- The call

-- a refusal number, or the message and the state of the negotiation behind it
unfoldable pub replied_in : Tables → State → Answer (List ℕ × State)
replied_in T S =
    cond (not (eqb S.header.end 0)) (refused ENDED)
    (cond (not (sends S.header.side S.header.messages)) (refused TURN)
    (accepted (reply_bytes (reply_in T S), replied_state (reply_in T S))))

abbrev pub behind_standing : Answer (Tables × State) → Answer (List ℕ × State)
behind_standing a = onward (λ x. replied_in x.0 x.1) a

-- "reply buffer 4,096 or more", "scratch 4,096 exactly"
unfoldable pub reply_size : ℕ → ℕ → Bool
reply_size reply scratch = leb LEAST-REPLY-BYTES reply && eqb scratch SCRATCH-BYTES

-- "Order: 1, tables 2 to 6 record by record .., 20, 22, 21"
unfoldable pub reply_of : List ℕ → List ℕ → List ℕ → List ℕ → Answer (List ℕ × State)
reply_of tables negotiation reply scratch = cond (reply_size (length reply) (length scratch)) (behind_standing (R.restore_of tables negotiation)) (refused LENGTH)

-- "the length returned"
abbrev pub length_of : List ℕ × State → ℕ
length_of x = length x.0

-- the negotiation's bytes behind it
abbrev pub given_state : List ℕ × State → List ℕ
given_state x = state_bytes x.1

-- "reply also its message bytes"
abbrev pub reply_left : List ℕ → Answer (List ℕ × State) → List ℕ
reply_left before a = buffer_after (λ x. x.0 ++ drop (length x.0) before) before a
