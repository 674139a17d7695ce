-- Which record stands at an index, and why none can be read there (document 01, "From the input"). Assumes nothing.
use Rattle.std.specs.Prelude.{ℕ, ◌+◌, ◌≤◌, ◌≡◌, true, List, length, get_or, take, drop}
use Rattle.record.specs.declared.Record.{Record}
use Rattle.record.specs.Record.{formed, record_bytes, size_of}
use Rattle.numbers.specs.Refusals.{COMMAND, OPERAND}

-- the bytes from the index on are those of the record, and its operands have right form
pub record StandsAt (s : List ℕ) (at : ℕ) (r : Record) : Type 0 where
  pub form : formed r ≡ true
  pub bytes : take (size_of r) (drop at s) ≡ record_bytes r

-- the byte at the index is the first one of some record, and there are as many bytes as this record has
pub record Whole (s : List ℕ) (at : ℕ) : Type 0 where
  pub like : Record
  pub code : get_or s at 0 ≡ get_or (record_bytes like) 0 0
  pub room : at + size_of like ≤ length s

-- why no record can be read at the index, and k is its number
pub data Unreadable (s : List ℕ) (at k : ℕ) : Type 0 where
  -- "2 unknown command, cut command"
  cut : (Whole s at → ⊥) → k ≡ COMMAND → Unreadable s at k
  -- "3 an operand of wrong form"
  malformed : Whole s at → ((r : Record) → StandsAt s at r → ⊥) → k ≡ OPERAND → Unreadable s at k
