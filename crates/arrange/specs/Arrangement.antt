-- What an arrangement of records is, and when one is accepted or refused (request 3). Assumes nothing.
use Rattle.std.specs.Prelude.{ℕ, ◌<◌, ◌≤◌, ◌≡◌, length, get_or}
use mathlib.Core.List.{List, [], ◌∷◌, ◌++◌, Memᴰ}
use Rattle.expression.specs.Order.{lex_less}
use Rattle.numbers.specs.Refusals.{LENGTH, COMMAND, OUTPUT}
use Rattle.record.specs.declared.Record.{Record}
use Rattle.record.specs.Record.{record_bytes, size_of}
use Rattle.record.specs.Unreadable.{Whole}
use Rattle.tables.specs.Accepted.{Rising}
use Rattle.tables.specs.Check.{check_of}
use Rattle.tables.specs.Refused.{Sized, CheckRefused}
use Rattle.arrange.specs.Records.{joined}

-- the bytes of one record, its operands of right form or not: its first byte is a command's, and it has as many bytes as this command's records
pub record Readable (p : List ℕ) : Type 0 where
  pub like : Record
  pub code : get_or p 0 0 ≡ get_or (record_bytes like) 0 0
  pub size : length p ≡ size_of like

-- bytes that are these records one after another
pub record ReadAs (s : List ℕ) (L : List (List ℕ)) : Type 0 where
  pub bytes : s ≡ joined L
  pub each : (p : List ℕ) → Memᴰ p L → Readable p

-- lists with the same members
pub record SameMembers {A : Type 0} (L M : List A) : Type 0 where
  pub there : (x : A) → Memᴰ x L → Memᴰ x M
  pub back : (x : A) → Memᴰ x M → Memᴰ x L

-- no exact repeats
pub data Once : List (List ℕ) → Type 0 where
  once-none : Once []
  once-cons : {p : List ℕ} {L : List (List ℕ)} → (Memᴰ p L → ⊥) → Once L → Once (p ∷ L)

-- "some arrangement, without exact repeats": a list with the same members, each once
pub record Arrangement (L M : List (List ℕ)) : Type 0 where
  pub same : SameMembers M L
  pub once : Once M

-- "its sorted records, without repeats": the same members, ascending strictly by bytes
pub record Sorted (L M : List (List ℕ)) : Type 0 where
  pub same : SameMembers M L
  pub ascend : Rising lex_less M

-- the input is accepted, and t are the tables written: "some arrangement, without exact repeats, passes the table check", "given space"
pub record Arranges (s : List ℕ) (space : ℕ) (t : List ℕ) : Type 0 where
  pub size : Sized (length s)
  pub records : List (List ℕ)
  pub read : ReadAs s records
  pub arrangement : List (List ℕ)
  pub each : Arrangement records arrangement
  pub passes : check_of (joined arrangement) ≡ 0
  pub written : t ≡ joined arrangement
  pub fits : length t ≤ space

-- why the input is refused, and k is the number
pub data ArrangeRefused (s : List ℕ) (space k : ℕ) : Type 0 where
  -- "1 a lent length outside the sizes": "1 to 4,096 bytes and repeats included"
  size : (Sized (length s) → ⊥) → k ≡ LENGTH → ArrangeRefused s space k
  -- "A record that cannot be read is refused 2": behind records that can be read, an unknown or cut one
  unread : {L : List (List ℕ)} {front rest : List ℕ} → Sized (length s) → ReadAs front L → s ≡ front ++ rest → 0 < length rest → (Whole rest 0 → ⊥) → k ≡ COMMAND
      → ArrangeRefused s space k
  -- "any other unfit input gets the number that its sorted records, without repeats, get from the table check"
  unfit : {L M : List (List ℕ)} → Sized (length s) → ReadAs s L → Sorted L M → CheckRefused (joined M) k → ArrangeRefused s space k
  -- "30, an output buffer shorter than the tables to be written; checked last"
  short : {L M : List (List ℕ)} → Sized (length s) → ReadAs s L → Sorted L M → check_of (joined M) ≡ 0 → space < length (joined M) → k ≡ OUTPUT
      → ArrangeRefused s space k
