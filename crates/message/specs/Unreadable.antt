-- Which command stands at an index, and why none can be read there (document 01, "From the input"). Assumes nothing.
use Rattle.std.specs.Prelude.{ℕ, ◌+◌, ◌≤◌, ◌≡◌, true, List, length, get_or, take, drop}
use Rattle.message.specs.declared.Command.{Command}
use Rattle.message.specs.declared.Command.TheVariants.{End}
use Rattle.message.specs.Command.{formed_command, command_bytes, size_of}
use Rattle.numbers.specs.Refusals.{COMMAND, OPERAND}

-- the bytes from the index on are those of the command, and its operands have right form
pub record StandsAt (s : List ℕ) (at : ℕ) (c : Command) : Type 0 where
  pub form : formed_command c ≡ true
  pub bytes : take (size_of c) (drop at s) ≡ command_bytes c

-- the byte at the index is the first one of some command, there are as many bytes as this command has, and an end is the last of all
pub record Whole (s : List ℕ) (at : ℕ) : Type 0 where
  pub like : Command
  pub code : get_or s at 0 ≡ get_or (command_bytes like) 0 0
  pub room : at + size_of like ≤ length s
  pub last : like ≡ End → length s ≡ at + 1

-- why no command can be read at the index, and k is its number
pub data Unreadable (s : List ℕ) (at k : ℕ) : Type 0 where
  -- "2 unknown command, cut command, missing end, bytes after end"
  cut : (Whole s at → ⊥) → k ≡ COMMAND → Unreadable s at k
  -- "3 an operand of wrong form, an illegal initial state"
  malformed : Whole s at → ((c : Command) → StandsAt s at c → ⊥) → k ≡ OPERAND → Unreadable s at k
