-- How many messages of each end a list of calls has (request 1). Assumes nothing.
use Rattle.std.specs.Prelude.{ℕ, ◌+◌, ◌≡◌, cond, List, [], ◌∷◌, eqb, length}
use Rattle.negotiation.specs.State.{State}
use Rattle.negotiation.specs.Messages.{message_count}
use Rattle.negotiation.specs.Layout.{state_bytes}
use Rattle.numbers.specs.Answer.{accepted}
use Rattle.report.specs.Report.{Report, report_of}
use Rattle.runs.specs.Built.{Message}

-- how many of these messages are of a side (0 mediator, 1 requester)
unfoldable pub sent_by : ℕ → List Message → ℕ
sent_by side [] = 0
sent_by side (m ∷ ms) = cond (eqb m.sender side) 1 0 + sent_by side ms

-- the negotiation's bytes hold a state whose count of each end is how many of these messages that end sent, their sum, document 01's count, is
-- how many messages there are, and every report on it gives both
pub record Counted (tables negotiation : List ℕ) (ms : List Message) : Type 0 where
  pub state : State
  pub bytes : negotiation ≡ state_bytes state
  pub mediator : state.header.messages.mediator ≡ sent_by 0 ms
  pub requester : state.header.messages.requester ≡ sent_by 1 ms
  pub together : message_count state.header.messages ≡ length ms
  pub reported : (node : ℕ) (r : Report) → report_of tables negotiation node ≡ accepted r
      → (r.messages.mediator ≡ sent_by 0 ms) × (r.messages.requester ≡ sent_by 1 ms)
