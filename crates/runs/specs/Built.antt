-- How the graph after a list of calls is built (document 01, "Two runs"). Assumes nothing.
use Rattle.std.specs.Prelude.{ℕ, ◌<◌, ◌≡◌, Bool, List, [], ◌∷◌, ◌++◌, get_or}
use Rattle.class.specs.declared.Name.{Name}
use Rattle.message.specs.declared.Command.{Command}
use Rattle.message.specs.Message.{message_bytes}
use Rattle.negotiation.specs.State.{State}
use Rattle.negotiation.specs.Layout.{state_bytes}
use Rattle.numbers.specs.Answer.{Answer, refused, accepted}
use Rattle.standing.specs.Turn.{sender_to}
use Rattle.applied.specs.Step.{moved}
use Rattle.applied.specs.After.{after_message}
use Rattle.legal.specs.Updates.{Updates}
use Rattle.take.specs.Take.{take_of}
use Rattle.reply.specs.Reply.{reply_of}
use Rattle.runs.specs.Runs.{Call, take, reply, report, after_call}

-- a message of a side
pub record Message : Type 0 where
  pub sender : ℕ
  pub bytes : List ℕ

-- a message that is accepted, of the other end; a reply that is given, of ours
abbrev pub by_take : State → List ℕ → Answer State → List Message
by_take S m (refused k) = []
by_take S m (accepted N) = record { sender = sender_to S; bytes = m } ∷ []

abbrev pub by_reply : State → Answer (List ℕ × State) → List Message
by_reply S (refused k) = []
by_reply S (accepted (m, N)) = record { sender = S.header.side; bytes = m } ∷ []

unfoldable pub message_of : List ℕ → State → Call → List Message
message_of tables S (take m scratch) = by_take S m (take_of tables (state_bytes S) m scratch)
message_of tables S (reply buffer scratch) = by_reply S (reply_of tables (state_bytes S) buffer scratch)
message_of tables S (report node) = []

-- "all messages accepted and replies given so far"
unfoldable pub messages_of : List ℕ → State → List Call → List Message
messages_of tables S [] = []
messages_of tables S (c ∷ cs) = message_of tables S c ++ messages_of tables (after_call tables S c) cs

-- the commands in the bytes of messages, each a legal update, lead from one state to another; a message is counted for its sender, and its end
-- set, full where the sender stopped on a size
pub data Builds (ns : List Name) : State → List Message → State → Type 0 where
  none : {S : State} → Builds ns S [] S
  next : {S L N : State} {m : Message} {ms : List Message} (commands : List Command) (full : Bool) → m.bytes ≡ message_bytes commands
      → Updates ns m.sender S commands L → Builds ns (after_message m.sender L (moved commands) full) ms N → Builds ns S (m ∷ ms) N

-- the message that a call is lent consists of bytes
abbrev pub LentBytes : Call → Type 0
LentBytes (take m scratch) = (i : ℕ) → get_or m i 0 < 256
LentBytes (reply buffer scratch) = Unit {0}
LentBytes (report node) = Unit {0}
