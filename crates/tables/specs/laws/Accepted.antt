-- Tables are accepted only where they are sound, and from their own bytes only; a refusal has a number from 1 to 6, but not 4. Assumes nothing.
use Rattle.std.specs.Prelude.{ℕ, zero, suc, ◌+◌, ◌<◌, ◌≤◌, ◌≡◌, refl, Bool, true, false, cond, not, ◌&&◌, ltb, leb, eqb, length, get_or, take, Result, Ok, Err}
use Rattle.std.proofs.Common.{sym, ap, ◌∙◌, subst, ⊎_elim, arith, ltb-true, ltb-false, leb-true, eqb-true, length-append, take-add}
use mathlib.Core.List.Memᴰ
use mathlib.Core.List.{List, [], ◌∷◌, ◌++◌, append_assoc, append-nil, Memᴰ}
use Rattle.std.proofs.Math.Seq.{take-length}
use Rattle.numbers.specs.Sizes.{MOST-TABLES-BYTES}
use Rattle.rt0.specs.Lists.{all}
use Rattle.word.specs.laws.Bools.{false-true, and_parts}
use Rattle.record.specs.declared.Record.{Record}
use Rattle.record.specs.declared.Record.TheVariants.{Own, Named, IssuerStored, SubjectStored, Sensitive, Access}
use Rattle.record.specs.Record.{formed, record_at, record_bytes, size_of}
use Rattle.record.specs.laws.RecordExact.{some_size, record-refusal, record-room, record-formed, record-only}
use Rattle.tables.specs.Tables.{Tables, unread, added}
use Rattle.tables.specs.Check.{pair_number, class_number, none, in_order, above, room, judge}
use Rattle.tables.specs.Check.{on_record, records_from, sized, read_tables}
use Rattle.tables.specs.laws.Check.{read_from, from_past, from-refused, from-judged}
use Rattle.tables.specs.Accepted.{rising_none, Records, Sound}
use Rattle.tables.specs.Fit.{Fit}
use Rattle.tables.specs.laws.Fit.{judge-reason, breaks-range, fit-exactly, fit-class}
use Rattle.tables.specs.laws.Sorted.{rising-add}
use Rattle.tables.specs.Bytes.{bytes_of, tables_bytes}
use Rattle.numbers.specs.Answer.{Answer, refused, accepted, judged}
use Rattle.numbers.specs.Refusals.{LENGTH, NAME}

-- The records of one command

each-add : {A B : Type 0} (f : A → B) (b : B) {L : List A} → ((y : A) → Memᴰ y L → f y ≡ b) → (x : A) → f x ≡ b → (y : A)
    → Memᴰ y (L ++ (x ∷ [])) → f y ≡ b
each-add f b {L} h x k y m = ⊎_elim (h y) (λ n. ap f (Memᴰ.eq_of_singleton n) ∙ k) (Memᴰ.append_cases L m)

module _ {A : Type 0} {wrap : A → Record} {before : A → A → Bool} {most : ℕ} {number : A → ℕ} where
  -- a command without records
  records-none : {L : List A} → none L ≡ true → Records wrap before most number L
  records-none {L = []} h = record {
    ascend = rising_none;
    few = omega arith;
    form = λ x m. absurd (Memᴰ.not-nil m);
    rules = λ x m. absurd
        (Memᴰ.not-nil m);
  }
  records-none {L = x ∷ L} h = absurd (false-true h)

  -- one record more
  records-add : {L : List A} → Records wrap before most number L → (x : A) → formed (wrap x) ≡ true → number x ≡ 0 → all (λ y. before y x) L ≡ true
      → ltb (length L) most ≡ true
      → Records wrap before most number (L ++ (x ∷ []))
  records-add {L} k x f c u l =
      record {
        ascend = rising-add k.ascend x u;
        few = omega (arith, length-append L (x ∷ []), ltb-true (length L) most l);
        form = each-add (λ y. formed (wrap y)) true k.form x f;
        rules = each-add number 0 k.rules x c;
      }

-- their bytes, with one record more
bytes-add : {A : Type 0} (wrap : A → Record) (L : List A) (x : A) → bytes_of wrap (L ++ (x ∷ [])) ≡ bytes_of wrap L ++ record_bytes (wrap x)
bytes-add wrap [] x = append-nil (record_bytes (wrap x))
bytes-add wrap (y ∷ L) x =
    ap (λ (l : List ℕ). record_bytes (wrap y) ++ l) (bytes-add wrap L x) ∙ sym (append_assoc (record_bytes (wrap y)) (bytes_of wrap L) (record_bytes (wrap x)))

bytes-none : {A : Type 0} (wrap : A → Record) (L : List A) → none L ≡ true → bytes_of wrap L ≡ []
bytes-none wrap [] h = refl
bytes-none wrap (x ∷ L) h = absurd (false-true h)

-- one list of bytes is another one and then a third
record Then (l m n : List ℕ) : Type 0 where
  same : l ≡ m ++ n

-- a record more, and no bytes follow
then-add : {A : Type 0} (wrap : A → Record) (L : List A) (x : A) (l : List ℕ) → l ≡ []
    → Then (bytes_of wrap (L ++ (x ∷ [])) ++ l) (bytes_of wrap L ++ l) (record_bytes (wrap x))
then-add wrap L x l h =
    record {
      same =
          ap (λ (k : List ℕ). bytes_of wrap (L ++ (x ∷ [])) ++ k) h
          ∙ append-nil (bytes_of wrap (L ++ (x ∷ [])))
          ∙ bytes-add wrap L x
          ∙ ap (λ (k : List ℕ). k ++ record_bytes (wrap x)) (sym (append-nil (bytes_of wrap L)) ∙ ap (λ (k : List ℕ). bytes_of wrap L ++ k) (sym h));
    }

-- the same behind other bytes
then-behind : (k : List ℕ) {l m n : List ℕ} → Then l m n → Then (k ++ l) (k ++ m) n
then-behind k {m = m} {n = n} h = record { same = ap (λ (o : List ℕ). k ++ o) h.same ∙ sym (append_assoc k m n) }

-- One record more

-- no record of a later command stands there, and self is once
abbrev Later : Tables → Record → Type 0
Later T (Own e) = T.own ≡ 0
Later T (Named n) = (none T.issuer_stored ≡ true) × (none T.subject_stored ≡ true) × (none T.sensitive ≡ true) × (none T.access ≡ true)
Later T (IssuerStored c) = (none T.subject_stored ≡ true) × (none T.sensitive ≡ true) × (none T.access ≡ true)
Later T (SubjectStored c) = (none T.sensitive ≡ true) × (none T.access ≡ true)
Later T (Sensitive p) = none T.access ≡ true
Later T (Access p) = Unit {0}

later : (T : Tables) (r : Record) → in_order T r ≡ true → Later T r
unfolding in_order
later T (Own e) h = eqb-true T.own 0 h
later T (Named n) h =
    let w = and_parts (not (eqb T.own 0) && none T.issuer_stored && none T.subject_stored && none T.sensitive) (none T.access) h in
    let v = and_parts (not (eqb T.own 0) && none T.issuer_stored && none T.subject_stored) (none T.sensitive) w.0 in
    let u = and_parts (not (eqb T.own 0) && none T.issuer_stored) (none T.subject_stored) v.0 in
    ((and_parts (not (eqb T.own 0)) (none T.issuer_stored) u.0).1, u.1, v.1, w.1)
later T (IssuerStored c) h =
    let w = and_parts (not (eqb T.own 0) && none T.subject_stored && none T.sensitive) (none T.access) h in
    let v = and_parts (not (eqb T.own 0) && none T.subject_stored) (none T.sensitive) w.0 in
    ((and_parts (not (eqb T.own 0)) (none T.subject_stored) v.0).1, v.1, w.1)
later T (SubjectStored c) h =
    let w = and_parts (not (eqb T.own 0) && none T.sensitive) (none T.access) h in
    ((and_parts (not (eqb T.own 0)) (none T.sensitive) w.0).1, w.1)
later T (Sensitive p) h = (and_parts (not (eqb T.own 0)) (none T.access) h).1
later T (Access p) h = tt

-- sound tables with one record more are sound
sound-add : (T : Tables) (r : Record) → Sound T → formed r ≡ true → Fit T r → Sound (added T r)
unfolding class_number pair_number above room
sound-add T (Own e) k f w = absurd (omega (arith, k.own, later T (Own e) w.order))
sound-add T (Named n) k f w =
    let o = later T (Named n) w.order in
    record {
      own = k.own;
      names = records-add k.names n f refl w.ascends w.size;
      issuer_stored = records-none o.0;
      subject_stored = records-none o.1;
      sensitive = records-none o.2;
      access = records-none o.3;
    }
sound-add T (IssuerStored c) k f w =
    record {
      own = k.own;
      names = k.names;
      issuer_stored = records-add k.issuer_stored c f (fit-class T (IssuerStored c) w) w.ascends w.size;
      subject_stored = k.subject_stored;
      sensitive = k.sensitive;
      access = k.access;
    }
sound-add T (SubjectStored c) k f w =
    record {
      own = k.own;
      names = k.names;
      issuer_stored = k.issuer_stored;
      subject_stored = records-add k.subject_stored c f (fit-class T (SubjectStored c) w) w.ascends w.size;
      sensitive = k.sensitive;
      access = records-none (later T (SubjectStored c) w.order).1;
    }
sound-add T (Sensitive p) k f w =
    record {
      own = k.own;
      names = k.names;
      issuer_stored = k.issuer_stored;
      subject_stored = k.subject_stored;
      sensitive = records-add k.sensitive p f (fit-class T (Sensitive p) w) w.ascends w.size;
      access = records-none (later T (Sensitive p) w.order);
    }
sound-add T (Access p) k f w =
    record {
      own = k.own;
      names = k.names;
      issuer_stored = k.issuer_stored;
      subject_stored = k.subject_stored;
      sensitive = k.sensitive;
      access = records-add k.access p f (fit-class T (Access p) w) w.ascends w.size;
    }

-- the bytes from a command on
module _ (T : Tables) where
  abbrev from_access : List ℕ
  from_access = bytes_of Access T.access

  abbrev from_sensitive : List ℕ
  from_sensitive = bytes_of Sensitive T.sensitive ++ from_access

  abbrev from_subject : List ℕ
  from_subject = bytes_of SubjectStored T.subject_stored ++ from_sensitive

  abbrev from_issuer : List ℕ
  from_issuer = bytes_of IssuerStored T.issuer_stored ++ from_subject

-- the bytes of one record more stand at the end
bytes-added : (T : Tables) (r : Record) → Sound T → Later T r → Then (tables_bytes (added T r)) (tables_bytes T) (record_bytes r)
unfolding tables_bytes
bytes-added T (Own e) k w = absurd (omega (arith, k.own))
bytes-added T (Named n) k w =
    then-behind (record_bytes (Own T.own))
    (then-add Named T.names n (from_issuer T)
    (λ i. bytes-none IssuerStored T.issuer_stored w.0 i ++
    (bytes-none SubjectStored T.subject_stored w.1 i ++ (bytes-none Sensitive T.sensitive w.2 i ++ bytes-none Access T.access w.3 i))))
bytes-added T (IssuerStored c) k w =
    then-behind (record_bytes (Own T.own))
    (then-behind (bytes_of Named T.names)
    (then-add IssuerStored T.issuer_stored c (from_subject T)
    (λ i. bytes-none SubjectStored T.subject_stored w.0 i ++ (bytes-none Sensitive T.sensitive w.1 i ++ bytes-none Access T.access w.2 i))))
bytes-added T (SubjectStored c) k w =
    then-behind (record_bytes (Own T.own))
    (then-behind (bytes_of Named T.names)
    (then-behind (bytes_of IssuerStored T.issuer_stored)
    (then-add SubjectStored T.subject_stored c (from_sensitive T)
    (λ i. bytes-none Sensitive T.sensitive w.0 i ++ bytes-none Access T.access w.1 i))))
bytes-added T (Sensitive p) k w =
    then-behind (record_bytes (Own T.own))
    (then-behind (bytes_of Named T.names)
    (then-behind (bytes_of IssuerStored T.issuer_stored)
    (then-behind (bytes_of SubjectStored T.subject_stored)
    (then-add Sensitive T.sensitive p (from_access T) (bytes-none Access T.access w)))))
bytes-added T (Access p) k w =
    then-behind (record_bytes (Own T.own))
    (then-behind (bytes_of Named T.names)
    (then-behind (bytes_of IssuerStored T.issuer_stored)
    (then-behind (bytes_of SubjectStored T.subject_stored)
    (then-behind (bytes_of Sensitive T.sensitive)
    (record { same = bytes-add Access T.access p })))))

-- Accepted tables

-- what is known once self is read, at an index: the tables so far are sound, and the bytes so far are theirs
record SoundSoFar (s : List ℕ) (at : ℕ) (T : Tables) : Type 0 where
  sound : Sound T
  bytes : ((i : ℕ) → get_or s i 0 < 256) → take at s ≡ tables_bytes T

-- self stands alone
sound-own : (e : ℕ) → formed (Own e) ≡ true → Sound (added unread (Own e))
unfolding formed
sound-own e f =
    record {
      own = ltb-true 0 e f;
      names = records-none refl;
      issuer_stored = records-none refl;
      subject_stored = records-none refl;
      sensitive = records-none refl;
      access = records-none refl;
    }

module _ (s : List ℕ) where
  -- the first record is self
  first : (r : Record) → 0 < length s → record_at s 0 ≡ Ok r → Fit unread r → SoundSoFar s (0 + size_of r) (added unread r)
  unfolding in_order tables_bytes record_bytes
  first (Own e) more h w = record { sound = sound-own e (record-formed s 0 (Own e) h); bytes = λ b. record-only s 0 (Own e) b more h }
  first (Named n) more h w = absurd (false-true w.order)
  first (IssuerStored c) more h w = absurd (false-true w.order)
  first (SubjectStored c) more h w = absurd (false-true w.order)
  first (Sensitive p) more h w = absurd (false-true w.order)
  first (Access p) more h w = absurd (false-true w.order)

  -- a further record
  further : (at : ℕ) (T : Tables) (r : Record) → at < length s → SoundSoFar s at T → record_at s at ≡ Ok r → Fit T r
      → SoundSoFar s (at + size_of r) (added T r)
  further at T r more k h w =
      record {
        sound = sound-add T r k.sound (record-formed s at r h) w;
        bytes =
            λ b. take-add at (size_of r) s ∙ (λ i. k.bytes b i ++ record-only s at r b more h i)
            ∙ sym (bytes-added T r k.sound (later T r w.order)).same;
      }

  module _ (U : Tables) where
    -- a record stands at an index that earns no number behind T, and U is accepted from the next one on
    record Next (at : ℕ) (T : Tables) : Type 0 where
      r : Record
      read : record_at s at ≡ Ok r
      good : judge T r ≡ 0
      rest : read_from s (at + size_of r) (added T r) ≡ accepted U

    next : (at : ℕ) (T : Tables) → at < length s → read_from s at T ≡ accepted U → Next at T
    next at T more h = go (record_at s at) refl
      where
        by_number : (r : Record) → record_at s at ≡ Ok r → (k : ℕ) → judge T r ≡ k → Next at T
        by_number r e zero q = record { r = r; read = e; good = q; rest = sym (from-judged s at T more r 0 e q) ∙ h }
        by_number r e (suc k) q = let z = sym (from-judged s at T more r (suc k) e q) ∙ h in absurd (let y : ◌≡◌ {A = ℕ} 0 1 = cc in omega arith)

        go : (x : Result Record ℕ) → record_at s at ≡ x → Next at T
        go (Err k) e = let z = sym (from-refused s at T more k e) ∙ h in absurd (let y : ◌≡◌ {A = ℕ} 0 1 = cc in omega arith)
        go (Ok r) e = by_number r e (judge T r) refl

    -- no byte is left
    end : (at : ℕ) (T : Tables) → at ≡ length s → SoundSoFar s at T → read_from s at T ≡ accepted U → SoundSoFar s (length s) U
    end at T e k h =
        let z = sym (from_past s at T (omega arith)) ∙ h in
        let same : T ≡ U = cc in
        subst (SoundSoFar s (length s)) same (subst (λ (n : ℕ). SoundSoFar s n T) e k)

    -- all records are read
    kept : (n at : ℕ) (T : Tables) → length s ≤ n + at → at ≤ length s → SoundSoFar s at T → read_from s at T ≡ accepted U → SoundSoFar s (length s) U
    kept zero at T l m k h = end at T (omega arith) k h
    kept (suc n) at T l m k h = go (ltb at (length s)) refl (λ r. kept n (at + size_of r) (added T r))
      where
        go : (b : Bool) → ltb at (length s) ≡ b
            → ((r : Record) → length s ≤ n + (at + size_of r) → at + size_of r ≤ length s → SoundSoFar s (at + size_of r) (added T r)
            → read_from s (at + size_of r) (added T r) ≡ accepted U → SoundSoFar s (length s) U)
            → SoundSoFar s (length s) U
        go true e again =
            let more = ltb-true at (length s) e in
            let w = next at T more h in
            let r = w.r in
            again r (omega (arith, some_size r)) (record-room s at r more w.read) (further at T r more k w.read ((fit-exactly T r).0 w.good)) w.rest
        go false e again = end at T (omega (arith, ltb-false at (length s) e)) k h

-- accepted bytes are within the sizes
sized-true : (s : List ℕ) (T : Tables) → read_tables s ≡ accepted T → (sized (length s) ≡ true) × (read_from s 0 unread ≡ accepted T)
unfolding read_tables read_from
sized-true s T h = go (sized (length s)) refl h
  where
    go : (b : Bool) → sized (length s) ≡ b → cond b (records_from (length s) s 0 unread) (refused LENGTH) ≡ accepted T
        → (sized (length s) ≡ true) × (records_from (length s) s 0 unread ≡ accepted T)
    go true e q = (e, q)
    go false e q = absurd (let y : ◌≡◌ {A = ℕ} 0 1 = cc in omega arith)

-- "tables 1 to 4,096 bytes"
pub accepted-length : (s : List ℕ) (T : Tables) → read_tables s ≡ accepted T → (0 < length s) × (length s ≤ MOST-TABLES-BYTES)
unfolding sized
accepted-length s T h =
    let w = and_parts (ltb 0 (length s)) (leb (length s) MOST-TABLES-BYTES) (sized-true s T h).0 in
    (ltb-true 0 (length s) w.0, leb-true (length s) MOST-TABLES-BYTES w.1)

all-kept : (s : List ℕ) (T : Tables) → read_tables s ≡ accepted T → SoundSoFar s (length s) T
all-kept s T h =
    let some = (accepted-length s T h).0 in
    let w = next s T 0 unread some (sized-true s T h).1 in
    let r = w.r in
    kept s T (length s) (0 + size_of r) (added unread r) (omega arith) (record-room s 0 r some w.read)
    (first s r some w.read ((fit-exactly unread r).0 w.good)) w.rest

-- accepted tables keep all rules
pub accepted-sound : (s : List ℕ) (T : Tables) → read_tables s ≡ accepted T → Sound T
accepted-sound s T h = (all-kept s T h).sound

-- accepted bytes are those of the tables
pub accepted-bytes : (s : List ℕ) (T : Tables) → ((i : ℕ) → get_or s i 0 < 256) → read_tables s ≡ accepted T → s ≡ tables_bytes T
accepted-bytes s T b h = sym (take-length s) ∙ (all-kept s T h).bytes b

-- tables have one arrangement
pub one-arrangement : (s t : List ℕ) (T : Tables) → ((i : ℕ) → get_or s i 0 < 256) → ((i : ℕ) → get_or t i 0 < 256)
    → read_tables s ≡ accepted T → read_tables t ≡ accepted T → s ≡ t
one-arrangement s t T b c h k = accepted-bytes s T b h ∙ sym (accepted-bytes t T c k)

-- Refused tables

-- a record is refused by 5 or 6
judge-numbers : (T : Tables) (r : Record) → (judge T r ≡ 0 → ⊥) → (4 < judge T r) × (judge T r ≤ 6)
judge-numbers T r z = ⊎_elim (λ f. absurd (z ((fit-exactly T r).1 f))) (breaks-range T r) (judge-reason T r)

-- "4 a name without class" is not among them
abbrev Numbered : ℕ → Type 0
Numbered k = (0 < k) × (k ≤ 6) × (k ≡ NAME → ⊥)

from-numbers : (n : ℕ) (s : List ℕ) (at : ℕ) (T : Tables) (k : ℕ) → records_from n s at T ≡ refused k → Numbered k
unfolding records_from
from-numbers zero s at T k h = absurd (let y : ◌≡◌ {A = ℕ} 0 1 = cc in omega arith)
from-numbers (suc n) s at T k h = go (ltb at (length s)) (record_at s at) refl h (λ m U. from-numbers n s m U k)
  where
    by-judge : (m : ℕ) (o : Answer Tables) → ((m ≡ 0 → ⊥) → (4 < m) × (m ≤ 6)) → judged m o ≡ refused k → (o ≡ refused k → Numbered k) → Numbered k
    by-judge zero o l q again = again q
    by-judge (suc m) o l q again =
        let e : suc m ≡ k = cc in
        let w = l (λ z. omega (arith, z)) in
        (omega arith, omega (arith, w.1), λ z. omega (arith, z, w.0))

    go : (b : Bool) (x : Result Record ℕ) → record_at s at ≡ x → cond b (on_record (λ size U. records_from n s (at + size) U) T x) (accepted T) ≡ refused k
        → ((m : ℕ) (U : Tables) → records_from n s m U ≡ refused k → Numbered k) → Numbered k
    go true (Err m) e q again =
        let z : m ≡ k = cc in
        ⊎_elim (λ w. (omega arith, omega arith, λ y. omega (arith, y))) (λ w. (omega arith, omega arith, λ y. omega (arith, y))) (record-refusal s at m e)
    go true (Ok r) e q again = by-judge (judge T r) _ (judge-numbers T r) q (again (at + size_of r) (added T r))
    go false x e q again = absurd (let y : ◌≡◌ {A = ℕ} 0 1 = cc in omega arith)

-- tables are refused by a number from 1 to 6, and never by 4
pub check-numbers : (s : List ℕ) (k : ℕ) → read_tables s ≡ refused k → (0 < k) × (k ≤ 6) × (k ≡ NAME → ⊥)
unfolding read_tables
check-numbers s k h = go (sized (length s)) h
  where
    go : (b : Bool) → cond b (records_from (length s) s 0 unread) (refused LENGTH) ≡ refused k → Numbered k
    go true q = from-numbers (length s) s 0 unread k q
    go false q = let e : 1 ≡ k = cc in (omega arith, omega arith, λ y. omega (arith, y))
