-- Where a reader stands once it has read (document 01, "From the state": "A message is read one command after another from the lent bytes").
-- Assumes nothing.
use Rattle.std.specs.Prelude.{ℕ, ◌+◌, cond, List, ltb, Result, Ok, Err}
use Rattle.message.specs.Command.{command_at, size_of}
use Rattle.message.specs.declared.Command.{Command}

-- the index behind a command; a refusal moves nothing
unfoldable pub behind : ℕ → Result Command ℕ → ℕ
behind at (Ok c) = at + size_of c
behind at (Err k) = at

-- the same in a message of n bytes, which no command goes beyond
unfoldable pub behind_in : ℕ → ℕ → Result Command ℕ → ℕ
behind_in n at a = cond (ltb n (behind at a)) at (behind at a)

-- the index behind the command that stands at an index
unfoldable pub position_after : List ℕ → ℕ → ℕ
position_after m at = behind at (command_at m at)
