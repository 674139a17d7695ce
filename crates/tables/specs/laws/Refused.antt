-- Tables are accepted exactly where all their records keep the rules, and refused exactly for the first that does not. Assumes nothing.
use Rattle.std.specs.Prelude.{ℕ, zero, suc, ◌+◌, ◌<◌, ◌≤◌, ◌≡◌, ◌↔◌, Bool, List, ltb, leb, length, get_or, Result, Ok, Err}
use Rattle.std.proofs.Common.{arith, sym, ◌∙◌, subst, ⊎_elim, lt-ltb, ltb-true, ltb-false, le-leb, leb-true}
use Rattle.std.proofs.Math.Path.{refl, ap}
use Rattle.std.proofs.Math.Bool.{true, false, cond}
use Rattle.word.specs.laws.Bools.{false-true, and_parts, and_both}
use Rattle.record.specs.declared.Record.{Record}
use Rattle.record.specs.Record.{record_at, size_of}
use Rattle.record.specs.Unreadable.{cut, malformed}
use Rattle.record.specs.laws.RecordExact.{some_size, record-room}
use Rattle.record.specs.laws.Unreadable.{read-inside, stands-exactly, unreadable-exactly}
use Rattle.tables.specs.Tables.{Tables, unread, added}
use Rattle.tables.specs.Check.{judge, records_from, sized, read_tables}
use Rattle.tables.specs.Refused.{Sized, Reads, start, next, Unfit, unreadable, breaks, CheckRefused, size, stopped}
use Rattle.tables.specs.laws.Check.{read_from, from_past, from-refused, from-judged}
use Rattle.tables.specs.laws.Fit.{judge-reason, breaks-number, breaks-range, breaks-some, fit-exactly}
use Rattle.tables.specs.laws.Group.{judged-refused}
use Rattle.numbers.specs.Answer.{Answer, refused, accepted}
use Rattle.numbers.specs.Sizes.{MOST-TABLES-BYTES}
use Rattle.numbers.specs.Refusals.{LENGTH, NAME}

pub sized-exactly : (n : ℕ) → (sized n ≡ true) ↔ Sized n
unfolding sized
sized-exactly n = (
  λ h. let w = and_parts (ltb 0 n) (leb n MOST-TABLES-BYTES) h in record { some = ltb-true 0 n w.0; most = leb-true n MOST-TABLES-BYTES w.1 },
  λ w. and_both (ltb 0 n) (leb n MOST-TABLES-BYTES) (lt-ltb 0 n w.some) (le-leb n MOST-TABLES-BYTES w.most),
)

-- the numbers are 1 to 6, but not 4
pub refused-range : {s : List ℕ} {k : ℕ} → CheckRefused s k → (0 < k) × (k ≤ 6) × (k ≡ NAME → ⊥)
refused-range (size n e) = (omega arith, omega arith, λ z. omega (arith, z))
refused-range (stopped i w m (unreadable (cut n e))) = (omega arith, omega arith, λ z. omega (arith, z))
refused-range (stopped i w m (unreadable (malformed v n e))) = (omega arith, omega arith, λ z. omega (arith, z))
refused-range (stopped {T = T} i w m (breaks {r} v b)) = let o = breaks-range T r b in (omega (arith, o.0), o.1, λ z. omega (arith, z, o.0))

module _ (s : List ℕ) (bytes : (i : ℕ) → get_or s i 0 < 256) where
  -- what an answer says of the bytes
  abbrev Says : Answer Tables → Type 0
  Says (refused k) = CheckRefused s k
  Says (accepted T) = Sized (length s) × Reads s (length s) T

  module _ (inside : Sized (length s)) where
    record-says : (at : ℕ) (T : Tables) → at < length s → Reads s at T
        → ((r : Record) → at + size_of r ≤ length s → Reads s (at + size_of r) (added T r) → Says (read_from s (at + size_of r) (added T r)))
        → (x : Result Record ℕ) → record_at s at ≡ x → Says (read_from s at T)
    record-says at T more w again (Err k) h =
        subst Says (sym (from-refused s at T more k h)) (stopped inside w more (unreadable ((unreadable-exactly s at bytes k).0 h)))
    record-says at T more w again (Ok r) h =
        let there = (stands-exactly s at bytes r).0 h in
        ⊎_elim (λ f. subst Says (sym (from-judged s at T more r 0 h ((fit-exactly T r).1 f))) (again r (record-room s at r more h) (next w there f)))
        (λ b. subst Says (sym (from-judged s at T more r (judge T r) h refl ∙ judged-refused (judge T r) _ (breaks-some T r b)))
        (stopped inside w more (breaks there b))) (judge-reason T r)

    all-says : (n at : ℕ) (T : Tables) → length s ≤ n + at → at ≤ length s → Reads s at T → Says (read_from s at T)
    all-says zero at T l m w =
        let e : at ≡ length s = omega arith in
        subst Says (sym (from_past s at T (omega arith))) (inside, subst (λ (i : ℕ). Reads s i T) e w)
    all-says (suc n) at T l m w = go (ltb at (length s)) refl (λ r. all-says n (at + size_of r) (added T r) (omega (arith, some_size r)))
      where
        go : (b : Bool) → ltb at (length s) ≡ b
            → ((r : Record) → at + size_of r ≤ length s → Reads s (at + size_of r) (added T r) → Says (read_from s (at + size_of r) (added T r)))
            → Says (read_from s at T)
        go true e again = record-says at T (ltb-true at (length s) e) w again (record_at s at) refl
        go false e again =
            let z : at ≡ length s = omega (arith, ltb-false at (length s) e) in
            subst Says (sym (from_past s at T (omega arith))) (inside, subst (λ (i : ℕ). Reads s i T) z w)

  tables-say : Says (read_tables s)
  unfolding read_tables read_from
  tables-say = go (sized (length s)) refl
    where
      go : (b : Bool) → sized (length s) ≡ b → Says (cond b (records_from (length s) s 0 unread) (refused LENGTH))
      go true e = all-says ((sized-exactly (length s)).0 e) (length s) 0 unread (omega arith) (omega arith) start
      go false e = size (λ w. false-true (sym e ∙ (sized-exactly (length s)).1 w)) refl

  -- Back

  reads-from : {at : ℕ} {T : Tables} → Reads s at T → read_from s 0 unread ≡ read_from s at T
  reads-from start = refl
  reads-from (next {at} {T} {r} w there f) =
      let h = (stands-exactly s at bytes r).1 there in
      reads-from w ∙ from-judged s at T (read-inside s at r h) r 0 h ((fit-exactly T r).1 f)

  sized-from : Sized (length s) → {at : ℕ} {T : Tables} → Reads s at T → read_tables s ≡ read_from s at T
  unfolding read_tables read_from
  sized-from inside w = (λ i. cond ((sized-exactly (length s)).1 inside i) (records_from (length s) s 0 unread) (refused LENGTH)) ∙ reads-from w

  unfit-from : {at : ℕ} {T : Tables} {k : ℕ} → at < length s → Unfit s at T k → read_from s at T ≡ refused k
  unfit-from {at} {T} {k} more (unreadable u) = from-refused s at T more k ((unreadable-exactly s at bytes k).1 u)
  unfit-from {at} {T} {k} more (breaks {r} there b) =
      from-judged s at T more r k ((stands-exactly s at bytes r).1 there) (breaks-number T r b) ∙ judged-refused k _ (breaks-some T r b)

  from-refusal : {k : ℕ} → CheckRefused s k → read_tables s ≡ refused k
  unfolding read_tables
  from-refusal {k} (size n e) = go (sized (length s)) refl
    where
      go : (b : Bool) → sized (length s) ≡ b → cond b (records_from (length s) s 0 unread) (refused LENGTH) ≡ refused k
      go true h = absurd (n ((sized-exactly (length s)).0 h))
      go false h = ap refused (sym e)
  from-refusal (stopped inside w more u) = sized-from inside w ∙ unfit-from more u

  -- tables are refused with a number exactly where its reason holds and no earlier one does
  pub check-refused-exactly : (k : ℕ) → (read_tables s ≡ refused k) ↔ CheckRefused s k
  check-refused-exactly k = (λ h. subst Says h tables-say, from-refusal)

  -- tables are accepted exactly where all bytes are records that keep the rules
  pub check-accepted-exactly : (T : Tables) → (read_tables s ≡ accepted T) ↔ (Sized (length s) × Reads s (length s) T)
  check-accepted-exactly T = (λ h. subst Says h tables-say, λ w. sized-from w.0 w.1 ∙ from_past s (length s) T (omega arith))
