-- Why a check refuses the tables (document 01, "From the input"): "1, tables 2 to 6 record by record". Assumes nothing.
use Rattle.std.specs.Prelude.{ℕ, ◌+◌, ◌<◌, ◌≤◌, ◌≡◌, List, length}
use Rattle.record.specs.declared.Record.{Record}
use Rattle.record.specs.Record.{size_of}
use Rattle.record.specs.Unreadable.{StandsAt, Unreadable}
use Rattle.tables.specs.Tables.{Tables, unread, added}
use Rattle.tables.specs.Fit.{Fit, Breaks}
use Rattle.numbers.specs.Refusals.{LENGTH}
use Rattle.numbers.specs.Sizes.{MOST-TABLES-BYTES}

-- "tables 1 to 4,096 bytes"
pub record Sized (n : ℕ) : Type 0 where
  pub some : 0 < n
  pub most : n ≤ MOST-TABLES-BYTES

-- the bytes before an index are records, each of which keeps all rules behind those before it, and the tables are theirs
pub data Reads (s : List ℕ) : ℕ → Tables → Type 0 where
  start : Reads s 0 unread
  next : {at : ℕ} {T : Tables} {r : Record} → Reads s at T → StandsAt s at r → Fit T r → Reads s (at + size_of r) (added T r)

-- why what stands at an index is refused behind the tables T, and k is its number
pub data Unfit (s : List ℕ) (at : ℕ) (T : Tables) (k : ℕ) : Type 0 where
  -- 2 and 3
  unreadable : Unreadable s at k → Unfit s at T k
  -- 5 and 6
  breaks : {r : Record} → StandsAt s at r → Breaks T r k → Unfit s at T k

-- why the tables are refused, and k is the number
pub data CheckRefused (s : List ℕ) (k : ℕ) : Type 0 where
  -- "1 a lent length outside the sizes"
  size : (Sized (length s) → ⊥) → k ≡ LENGTH → CheckRefused s k
  -- the first record that is refused
  stopped : {at : ℕ} {T : Tables} → Sized (length s) → Reads s at T → at < length s → Unfit s at T k → CheckRefused s k
