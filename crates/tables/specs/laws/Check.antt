-- How the reading of tables goes on from one record to the next. Assumes nothing.
use Rattle.std.specs.Prelude.{ℕ, zero, suc, ◌+◌, ◌<◌, ◌≤◌, Bool, cond, List, ltb, length, ◌≡◌, refl, Result, Ok, Err}
use Rattle.record.specs.declared.Record.{Record}
use Rattle.record.specs.Record.{record_at, size_of}
use Rattle.record.specs.laws.RecordExact.{some_size}
use Rattle.tables.specs.declared.House.{House}
use Rattle.tables.specs.Tables.{Tables, added}
use Rattle.tables.specs.laws.Tables.{tables_of}
use Rattle.std.proofs.Common.{sym, ap, ◌∙◌, arith, lt-ltb, le-ltb}
use Rattle.tables.specs.Check.{judge, on_record, records_from}
use Rattle.numbers.specs.Answer.{Answer, refused, accepted, judged}

-- what decoded tables say
abbrev pub outcome_of : Result House ℕ → Answer Tables
outcome_of (Ok H) = accepted (tables_of H)
outcome_of (Err k) = refused k

-- no byte is left
records-past : (n : ℕ) (s : List ℕ) (at : ℕ) (T : Tables) → length s ≤ at → records_from n s at T ≡ accepted T
unfolding records_from
records-past zero s at T h = refl
records-past (suc n) s at T h =
    ap (λ (t : Bool). cond t (on_record (λ size U. records_from n s (at + size) U) T (record_at s at)) (accepted T)) (le-ltb at (length s) h)

-- what comes after a record is the same where it is the same for each size that a record has
same_next : (f g : ℕ → Tables → Answer Tables) (T : Tables) → ((r : Record) (U : Tables) → f (size_of r) U ≡ g (size_of r) U) → (x : Result Record ℕ)
    → on_record f T x ≡ on_record g T x
same_next f g T h (Err k) = refl
same_next f g T h (Ok r) = ap (judged (judge T r)) (h r (added T r))

-- a larger number than that of the bytes left changes nothing
records-enough : (n m : ℕ) (s : List ℕ) (at : ℕ) (T : Tables) → length s ≤ n + at → length s ≤ m + at → records_from n s at T ≡ records_from m s at T
unfolding records_from
records-enough zero m s at T h k = sym (records-past m s at T (omega arith))
records-enough (suc n) zero s at T h k = records-past (suc n) s at T (omega arith)
records-enough (suc n) (suc m) s at T h k =
    ap (λ (x : Answer Tables). cond (ltb at (length s)) x (accepted T))
    (same_next (λ size U. records_from n s (at + size) U) (λ size U. records_from m s (at + size) U) T
    (λ r U. records-enough n m s (at + size_of r) U (omega (arith, some_size r)) (omega (arith, some_size r))) (record_at s at))

-- the records from an index on
unfoldable pub read_from : List ℕ → ℕ → Tables → Answer Tables
read_from s at T = records_from (length s) s at T

-- no byte is left
pub from_past : (s : List ℕ) (at : ℕ) (T : Tables) → length s ≤ at → read_from s at T ≡ accepted T
unfolding read_from
from_past s at T h = records-past (length s) s at T h

-- one record more
from-record : (s : List ℕ) (at : ℕ) (T : Tables) → at < length s → read_from s at T ≡ on_record (λ size U. read_from s (at + size) U) T (record_at s at)
unfolding read_from records_from
from-record s at T h = go (length s) refl
  where
    go : (n : ℕ) → length s ≡ n → records_from n s at T ≡ on_record (λ size U. records_from n s (at + size) U) T (record_at s at)
    go zero e = absurd (omega arith)
    go (suc n) e =
        ap (λ (t : Bool). cond t (on_record (λ size U. records_from n s (at + size) U) T (record_at s at)) (accepted T)) (lt-ltb at (length s) h)
        ∙ same_next (λ size U. records_from n s (at + size) U) (λ size U. records_from (suc n) s (at + size) U) T
        (λ r U. records-enough n (suc n) s (at + size_of r) U (omega (arith, some_size r)) (omega (arith, some_size r))) (record_at s at)

module _ (s : List ℕ) (at : ℕ) (T : Tables) (more : at < length s) where
  -- a record that cannot be read
  pub from-refused : (k : ℕ) → record_at s at ≡ Err k → read_from s at T ≡ refused k
  from-refused k h = from-record s at T more ∙ ap (on_record (λ size U. read_from s (at + size) U) T) h

  -- a record that is read, judged
  pub from-judged : (r : Record) (k : ℕ) → record_at s at ≡ Ok r → judge T r ≡ k → read_from s at T ≡ judged k (read_from s (at + size_of r) (added T r))
  from-judged r k h q =
      from-record s at T more
      ∙ ap (on_record (λ size U. read_from s (at + size) U) T) h
      ∙ ap (λ (m : ℕ). judged m (read_from s (at + size_of r) (added T r))) q
