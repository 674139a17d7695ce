-- Whose turn it is (document 01, "The reply": "the mediator sends when it is even"). Assumes nothing.
use Rattle.std.specs.Prelude.{ℕ, ◌%◌, Bool, eqb}
use Rattle.negotiation.specs.declared.Messages.{Messages}
use Rattle.negotiation.specs.Messages.{message_count}
use Rattle.negotiation.specs.State.{State}
use Rattle.negotiation.specs.Ends.{other_side}

-- "the mediator sends when it is even": whether side s sends once these messages are counted
unfoldable pub sends : ℕ → Messages → Bool
sends s m = eqb (message_count m % 2) s

-- the side that sends a message to us
abbrev pub sender_to : State → ℕ
sender_to S = other_side S.header.side
