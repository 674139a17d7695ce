-- Messages counted for each end (request 1). Assumes nothing.
use Rattle.std.specs.Prelude.{ℕ, ◌+◌, cond, eqb}
use Rattle.negotiation.specs.declared.Messages.{Messages}

-- document 01's message count, "messages accepted and replies given together"
unfoldable pub message_count : Messages → ℕ
message_count m = m.mediator + m.requester

-- one message more of a side (0 mediator, 1 requester)
unfoldable pub counted : ℕ → Messages → Messages
counted side m = record { mediator = m.mediator + cond (eqb side 0) 1 0; requester = m.requester + cond (eqb side 0) 0 1 }
