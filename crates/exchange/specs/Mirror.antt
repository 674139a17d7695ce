-- What the other end reaches with a reply. Assumes nothing.
use Rattle.std.specs.Prelude.{false}
use Rattle.tables.specs.Tables.{Tables}
use Rattle.negotiation.specs.State.{State, with_header}
use Rattle.applied.specs.After.{after_message}
use Rattle.applied.specs.Step.{moved}
use Rattle.reply.specs.Reply.{reply_in}

-- what the other end, in the state R, reaches with the reply of the state S
abbrev pub other_after : Tables → State → State → State
other_after T S R = after_message S.header.side (with_header (reply_in T S).state R.header) (moved (reply_in T S).commands) false
