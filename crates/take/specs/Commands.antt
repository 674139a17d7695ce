-- The commands of a message, one after another (document 01, "From the state": "A message is read one command after another from the lent bytes").
-- Assumes nothing.
use Rattle.std.specs.Prelude.{ℕ, zero, suc, ◌+◌, Bool, cond, ◌||◌, List, Result, Ok, Err}
use Rattle.class.specs.declared.Name.{Name}
use Rattle.message.specs.Command.{command_at, size_of}
use Rattle.negotiation.specs.State.{State}
use Rattle.applied.specs.Step.{stepped, is_move}
use Rattle.legal.specs.Number.{legal_number}
use Rattle.message.specs.Message.{is_end}
use Rattle.numbers.specs.Answer.{Answer, refused, accepted, judged}
use Rattle.numbers.specs.Refusals.{COMMAND}
use Rattle.message.specs.declared.Command.{Command}

-- the state that commands lead to, and whether an open, an edge or a mark was among them: an end ends the message; another command is carried out, and the
-- next is read
abbrev pub on_command : (ℕ → State → Bool → Answer (State × Bool)) → List Name → ℕ → State → Bool → Result Command ℕ → Answer (State × Bool)
on_command next ns s S moved (Err k) = refused k
on_command next ns s S moved (Ok c) =
    judged (legal_number ns s S c) (cond (is_end c) (accepted (S, moved)) (next (size_of c) (stepped S s c) (moved || is_move c)))

-- the commands from an index on, sent by side s. The first number is at least that of the bytes left.
unfoldable pub commands_from : ℕ → List Name → ℕ → List ℕ → ℕ → State → Bool → Answer (State × Bool)
commands_from zero ns s m at S moved = refused COMMAND
commands_from (suc f) ns s m at S moved = on_command (λ size T v. commands_from f ns s m (at + size) T v) ns s S moved (command_at m at)
