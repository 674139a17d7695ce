-- The records of bytes: the bytes are these records one after another, or behind some of them one is unknown or cut. Assumes nothing.
use Rattle.std.specs.Prelude.{ℕ, zero, suc, ◌<◌, ◌≤◌, ◌↔◌, ◌≡◌, refl, Bool, true, false, cond, ◌&&◌, ltb, leb, eqb, length, get_or, take, drop}
use Rattle.std.proofs.Common.{sym, ap, ◌∙◌, subst, arith, lt-ltb, ltb-true, le-leb, leb-true, leb-false, eq-eqb, eqb-true, length-append, length-drop, take-append-drop, take_at, drop_at, length-take-le, get_or-take}
use mathlib.Core.List.{List, [], ◌∷◌, ◌++◌, append_assoc, Memᴰ}
use Rattle.std.proofs.Math.ListN.{get_or-append}
use Rattle.numbers.specs.Answer.{Answer, refused, accepted}
use Rattle.numbers.specs.Refusals.{COMMAND}
use Rattle.word.specs.laws.Bools.{and_parts, and_both}
use Rattle.rt0.specs.laws.Lists.{all-each, all_of}
use Rattle.rt0.specs.Lists.{all}
use Rattle.record.specs.Record.{size_of, size_by}
use Rattle.record.specs.Unreadable.{Whole}
use Rattle.record.specs.laws.RecordExact.{some_size}
use Rattle.record.specs.laws.Size.{size-by, whole-size, size-like}
use Rattle.arrange.specs.Arrangement.{Readable, ReadAs}
use Rattle.arrange.specs.Records.{first_size, behind, cut_by, split_of, records_of, joined}

-- as many bytes as the first of them says
unfoldable pub is_record : List ℕ → Bool
is_record p = ltb 0 (length p) && eqb (size_by (get_or p 0 0)) (length p)

-- a record: its size is what its first byte says, and it has bytes
pub record-parts : (p : List ℕ) → is_record p ≡ true → (0 < length p) × (size_by (get_or p 0 0) ≡ length p)
unfolding is_record
record-parts p h =
    let b = and_parts (ltb 0 (length p)) (eqb (size_by (get_or p 0 0)) (length p)) h in
    (ltb-true 0 (length p) b.0, eqb-true (size_by (get_or p 0 0)) (length p) b.1)

pub record_of_lem : (p : List ℕ) → 0 < length p → size_by (get_or p 0 0) ≡ length p → is_record p ≡ true
unfolding is_record
record_of_lem p h k = and_both (ltb 0 (length p)) (eqb (size_by (get_or p 0 0)) (length p)) (lt-ltb 0 (length p) h) (eq-eqb (size_by (get_or p 0 0)) (length p) k)

-- a record in front is the first record
first-record : (p t : List ℕ) → is_record p ≡ true → first_size (p ++ t) ≡ length p
unfolding first_size
first-record p t h =
    let b = record-parts p h in
    let e : size_by (get_or (p ++ t) 0 0) ≡ length p = ap size_by (get_or-append p t 0 0 b.0) ∙ b.1 in
    (λ i. cond (leb (e i) (length (p ++ t))) (e i) 0)
    ∙ ap (λ (x : Bool). cond x (length p) 0) (le-leb (length p) (length (p ++ t)) (omega (arith, length-append p t)))

-- the first record, where it is known and not cut
pub first-parts : (s : List ℕ) (k : ℕ) → first_size s ≡ k → 0 < k → (k ≤ length s) × (size_by (get_or s 0 0) ≡ k)
unfolding first_size
first-parts s k e h = go (leb (size_by (get_or s 0 0)) (length s)) refl e
  where
    go : (b : Bool) → leb (size_by (get_or s 0 0)) (length s) ≡ b → cond b (size_by (get_or s 0 0)) 0 ≡ k → (k ≤ length s) × (size_by (get_or s 0 0) ≡ k)
    go true q r = (omega (arith, leb-true (size_by (get_or s 0 0)) (length s) q), r)
    go false q r = absurd (omega arith)

-- it is a record
pub first-is : (s : List ℕ) (k : ℕ) → first_size s ≡ k → 0 < k → is_record (take k s) ≡ true
first-is s k e h =
    let b = first-parts s k e h in
    let l : length (take k s) ≡ k = length-take-le k s b.0 in
    record_of_lem (take k s) (omega arith) (ap size_by (get_or-take k s 0 0 h) ∙ b.1 ∙ sym l)

cut_record : (n : ℕ) (p t : List ℕ) → is_record p ≡ true → cut_by (λ u. split_of n u) (p ++ t) (first_size (p ++ t)) ≡ behind (p ∷ []) (split_of n t)
cut_record n p t h = go (length p) refl (record-parts p h).0
  where
    go : (k : ℕ) → length p ≡ k → 0 < k → cut_by (λ u. split_of n u) (p ++ t) (first_size (p ++ t)) ≡ behind (p ∷ []) (split_of n t)
    go zero e l = absurd (omega arith)
    go (suc k) e l =
        ap (cut_by (λ u. split_of n u) (p ++ t)) (first-record p t h ∙ e)
        ∙ (λ i. behind (take_at p t (suc k) e i ∷ []) (split_of n (drop_at p t (suc k) e i)))

-- a record in front of others
split-first : (n : ℕ) (p t : List ℕ) → is_record p ≡ true → split_of (suc n) (p ++ t) ≡ behind (p ∷ []) (split_of n t)
unfolding split_of
split-first n [] t h = absurd (let b = record-parts [] h in omega arith)
split-first n (x ∷ p) t h = cut_record n (x ∷ p) t h

-- the records of the bytes of records are these
split-joined : (n : ℕ) (L : List (List ℕ)) → all is_record L ≡ true → length (joined L) ≤ n → split_of n (joined L) ≡ accepted L
unfolding joined split_of
split-joined zero [] h k = refl
split-joined (suc n) [] h k = refl
split-joined zero (p ∷ L) h k =
    let b = record-parts p (and_parts (is_record p) (all is_record L) h).0 in absurd (omega (arith, length-append p (joined L)))
split-joined (suc n) (p ∷ L) h k =
    let b = and_parts (is_record p) (all is_record L) h in
    let l = record-parts p b.0 in
    split-first n p (joined L) b.0 ∙ ap (behind (p ∷ [])) (split-joined n L b.1 (omega (arith, length-append p (joined L))))

pub records-joined : (L : List (List ℕ)) → all is_record L ≡ true → records_of (joined L) ≡ accepted L
unfolding records_of
records-joined L h = split-joined (length (joined L)) L h (omega arith)

accepted-same : {A : Type 0} {x y : A} → accepted x ≡ accepted y → x ≡ y
accepted-same h = cc

-- bytes have one list of records
pub joined_same : (L M : List (List ℕ)) → all is_record L ≡ true → all is_record M ≡ true → joined L ≡ joined M → L ≡ M
joined_same L M h k e = accepted-same (sym (records-joined L h) ∙ ap records_of e ∙ records-joined M k)

refused-accepted : {A : Type 0} {k : ℕ} {y : A} → refused k ≡ accepted y → ⊥
refused-accepted e = let z : ◌≡◌ {A = ℕ} 0 1 = cc in omega arith

-- records whose bytes are these
abbrev Back : List ℕ → List (List ℕ) → Type 0
Back s L = (joined L ≡ s) × (all is_record L ≡ true)

back-first : (s : List ℕ) (L : List (List ℕ)) (k : ℕ) → first_size s ≡ suc k → (o : Answer (List (List ℕ))) → ((M : List (List ℕ)) → o ≡ accepted M → Back (drop (suc k) s) M)
    → behind (take (suc k) s ∷ []) o ≡ accepted L → Back s L
unfolding joined
back-first s L k e (refused j) ih q = absurd (refused-accepted q)
back-first s L k e (accepted M) ih q =
    let r = ih M refl in
    subst (Back s) (accepted-same q) (
      ap (λ (t : List ℕ). take (suc k) s ++ t) r.0 ∙ take-append-drop (suc k) s,
      and_both (is_record (take (suc k) s)) (all is_record M) (first-is s (suc k) e (omega arith)) r.1,
    )

back_cut : (others : List ℕ → Answer (List (List ℕ))) (s : List ℕ) (L : List (List ℕ)) → ((t : List ℕ) (M : List (List ℕ)) → others t ≡ accepted M → Back t M)
    → (k : ℕ) → first_size s ≡ k → cut_by others s k ≡ accepted L → Back s L
back_cut others s L ih zero e q = absurd (refused-accepted q)
back_cut others s L ih (suc k) e q = back-first s L k e (others (drop (suc k) s)) (ih (drop (suc k) s)) q

back-empty : (L : List (List ℕ)) → accepted [] ≡ accepted L → Back [] L
unfolding joined
back-empty L h = subst (Back []) (accepted-same h) (refl, refl)

-- the records of bytes are records, and their bytes are these
split-back : (n : ℕ) (s : List ℕ) (L : List (List ℕ)) → split_of n s ≡ accepted L → Back s L
unfolding split_of
split-back zero [] L h = back-empty L h
split-back zero (x ∷ s) L h = absurd (refused-accepted h)
split-back (suc n) [] L h = back-empty L h
split-back (suc n) (x ∷ s) L h = back_cut (λ t. split_of n t) (x ∷ s) L (λ t M q. split-back n t M q) (first_size (x ∷ s)) refl h

pub records-back : (s : List ℕ) (L : List (List ℕ)) → records_of s ≡ accepted L → (joined L ≡ s) × (all is_record L ≡ true)
unfolding records_of
records-back s L h = split-back (length s) s L h

-- the bytes of one record, as a test
pub readable-exactly : (p : List ℕ) → (is_record p ≡ true) ↔ Readable p
readable-exactly p = (to, fro)
  where
    to : is_record p ≡ true → Readable p
    to h =
        let b = record-parts p h in
        let e : size_by (get_or p 0 0) ≡ length p = b.1 in
        let w = size-like (get_or p 0 0) (omega (arith, b.0)) in
        record { like = w.0; code = sym w.1; size = sym e ∙ ap size_by (sym w.1) ∙ size-by w.0 }

    fro : Readable p → is_record p ≡ true
    fro w = let e : length p ≡ size_of w.like = w.size in record_of_lem p (omega (arith, some_size w.like)) (ap size_by w.code ∙ size-by w.like ∙ sym e)

pub each-readable : (L : List (List ℕ)) → all is_record L ≡ true → (p : List ℕ) → Memᴰ p L → Readable p
each-readable L h p m = (readable-exactly p).0 (all-each is_record m h)

pub all-records : (L : List (List ℕ)) → ((p : List ℕ) → Memᴰ p L → Readable p) → all is_record L ≡ true
all-records L h = all_of is_record L (λ p m. (readable-exactly p).1 (h p m))

-- the records of bytes are these exactly where the bytes are these records one after another
pub records-exactly : (s : List ℕ) (L : List (List ℕ)) → (records_of s ≡ accepted L) ↔ ReadAs s L
records-exactly s L = (
  λ h. let b = records-back s L h in record { bytes = sym b.0; each = each-readable L b.1 },
  λ w. ap records_of w.bytes ∙ records-joined L (all-records L w.each),
)

-- Bytes behind records that are none

-- the first record is unknown or cut
pub first-whole : (s : List ℕ) → first_size s ≡ 0 → Whole s 0 → ⊥
unfolding first_size
first-whole s h w = go (leb (size_by (get_or s 0 0)) (length s)) refl h
  where
    size : size_by (get_or s 0 0) ≡ size_of w.like
    size = whole-size s 0 w

    go : (b : Bool) → leb (size_by (get_or s 0 0)) (length s) ≡ b → cond b (size_by (get_or s 0 0)) 0 ≡ 0 → ⊥
    go true q r = let z = size in omega (arith, some_size w.like)
    go false q r = let z = size in let l = w.room in omega (arith, leb-false (size_by (get_or s 0 0)) (length s) q)

pub whole-first : (s : List ℕ) → (Whole s 0 → ⊥) → first_size s ≡ 0
whole-first s h = go (first_size s) refl
  where
    go : (k : ℕ) → first_size s ≡ k → k ≡ 0
    go zero e = refl
    go (suc k) e =
        let b = first-parts s (suc k) e (omega arith) in
        let size : size_by (get_or s 0 0) ≡ suc k = b.1 in
        let w = size-like (get_or s 0 0) (omega arith) in
        let z : size_by (get_or s 0 0) ≡ size_of w.0 = ap size_by (sym w.1) ∙ size-by w.0 in
        absurd (h (record { like = w.0; code = sym w.1; room = omega (arith, b.0) }))

-- behind some records one is unknown or cut
pub record Unread (s : List ℕ) : Type 0 where
  pub records : List (List ℕ)
  pub rest : List ℕ
  pub each : all is_record records ≡ true
  pub parts : s ≡ joined records ++ rest
  pub more : 0 < length rest
  pub none : first_size rest ≡ 0

accepted-refused : {A : Type 0} {k : ℕ} {y : A} → accepted y ≡ refused k → ⊥
accepted-refused e = refused-accepted (sym e)

behind-refused : (L : List (List ℕ)) (o : Answer (List (List ℕ))) (k : ℕ) → behind L o ≡ refused k → o ≡ refused k
behind-refused L (refused j) k e = e
behind-refused L (accepted M) k e = absurd (accepted-refused e)

unread-here : (x : ℕ) (s : List ℕ) → first_size (x ∷ s) ≡ 0 → Unread (x ∷ s)
unfolding joined
unread-here x s e = record { records = []; rest = x ∷ s; each = refl; parts = refl; more = omega arith; none = e }

unread-next : (s : List ℕ) (k : ℕ) → first_size s ≡ suc k → Unread (drop (suc k) s) → Unread s
unfolding joined
unread-next s k e w =
    let p : List ℕ = take (suc k) s in
    record {
      records = p ∷ w.records;
      rest = w.rest;
      each = and_both (is_record p) (all is_record w.records) (first-is s (suc k) e (omega arith)) w.each;
      parts = sym (take-append-drop (suc k) s) ∙ ap (λ (t : List ℕ). p ++ t) w.parts ∙ sym (append_assoc p (joined w.records) w.rest);
      more = w.more;
      none = w.none;
    }

split-unread : (n : ℕ) (s : List ℕ) (k : ℕ) → length s ≤ n → split_of n s ≡ refused k → Unread s × (k ≡ COMMAND)
unfolding split_of
split-unread zero [] k l h = absurd (accepted-refused h)
split-unread zero (x ∷ s) k l h = absurd (omega arith)
split-unread (suc n) [] k l h = absurd (accepted-refused h)
split-unread (suc n) (x ∷ s) k l h = go (λ t. split-unread n t k) (first_size (x ∷ s)) refl h
  where
    go : ((t : List ℕ) → length t ≤ n → split_of n t ≡ refused k → Unread t × (k ≡ COMMAND)) → (m : ℕ) → first_size (x ∷ s) ≡ m
        → cut_by (λ t. split_of n t) (x ∷ s) m ≡ refused k → Unread (x ∷ s) × (k ≡ COMMAND)
    go ih zero e q = (unread-here x s e, cc)
    go ih (suc m) e q =
        let t : List ℕ = drop (suc m) (x ∷ s) in
        let r = ih t (omega (arith, length-drop (suc m) (x ∷ s))) (behind-refused (take (suc m) (x ∷ s) ∷ []) (split_of n t) k q) in
        (unread-next (x ∷ s) m e r.0, r.1)

unread-split : (n : ℕ) (L : List (List ℕ)) (t : List ℕ) → all is_record L ≡ true → 0 < length t → first_size t ≡ 0 → length (joined L ++ t) ≤ n
    → split_of n (joined L ++ t) ≡ refused COMMAND
unfolding joined split_of
unread-split n [] [] h m e l = absurd (omega arith)
unread-split zero [] (x ∷ t) h m e l = absurd (omega arith)
unread-split (suc n) [] (x ∷ t) h m e l = ap (cut_by (λ u. split_of n u) (x ∷ t)) e
unread-split zero (p ∷ L) t h m e l = absurd (omega (arith, length-append (p ++ joined L) t))
unread-split (suc n) (p ∷ L) t h m e l =
    let b = and_parts (is_record p) (all is_record L) h in
    let w = record-parts p b.0 in
    ap (split_of (suc n)) (append_assoc p (joined L) t)
    ∙ split-first n p (joined L ++ t) b.0
    ∙ ap (behind (p ∷ []))
    (unread-split n L t b.1 m e (omega (arith, ap length (append_assoc p (joined L) t), length-append p (joined L ++ t), w.0)))

-- bytes are refused, with 2, exactly where behind records one is unknown or cut
pub unread-exactly : (s : List ℕ) (k : ℕ) → (records_of s ≡ refused k) ↔ (Unread s × (k ≡ COMMAND))
unfolding records_of
unread-exactly s k = (
  λ h. split-unread (length s) s k (omega arith) h,
  λ w.
      let u = w.0 in
      let e = u.parts in
      ap (split_of (length s)) e ∙ unread-split (length s) u.records u.rest u.each u.more u.none (omega (arith, ap length e)) ∙ ap refused (sym w.1),
)
