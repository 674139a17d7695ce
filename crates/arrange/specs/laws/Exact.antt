-- Which records are accepted, what is written of them, and why others are refused (request 3). Assumes nothing.
use Rattle.std.specs.Prelude.{ℕ, ◌<◌, ◌≤◌, ◌≡◌, ◌↔◌, ◌⊎◌, Bool, leb, length}
use Rattle.std.proofs.Math.Path.{refl, sym, ap, subst}
use Rattle.std.proofs.Common.{◌∙◌, inl, inr, arith, leb-true, leb-false}
use Rattle.std.proofs.Math.Bool.{true, false, cond}
use mathlib.Core.List.{List, ◌++◌}
use Rattle.numbers.specs.Answer.{Answer, refused, accepted, onward, judged, answer_of, no_value}
use Rattle.numbers.specs.Refusals.{LENGTH, OUTPUT, NAME}
use Rattle.word.specs.laws.Bools.{false-true}
use Rattle.expression.specs.laws.There.{Bytes}
use Rattle.tables.specs.Tables.{Tables}
use Rattle.tables.specs.Refused.{Sized}
use Rattle.tables.specs.Check.{sized, read_tables, check_of}
use Rattle.tables.specs.laws.Refused.{sized-exactly, check-refused-exactly, refused-range}
use Rattle.arrange.specs.laws.Passing.{check-passes, rising-once, arranged_is, arranged-bytes, passing-only}
use Rattle.arrange.specs.Records.{records_of, joined}
use Rattle.arrange.specs.Arranged.{arranged}
use Rattle.arrange.specs.Arrange.{checked_in, arrange_of, in_space}
use Rattle.arrange.specs.Arrangement.{ReadAs, SameMembers, Sorted, Arranges, ArrangeRefused, size, unread, unfit, short}
use Rattle.arrange.specs.laws.Records.{all-records, each-readable, records-exactly, unread-exactly, first-whole, whole-first}
use Rattle.arrange.specs.laws.Arranged.{arranged-same, arranged-rising, arranged-only, arranged-equal}
use Rattle.arrange.specs.laws.Arrange.{reads, refused-unfit, refused-short, accepted-fit}

-- Sorted records are the ones arranged

sorted-is : (L : List (List ℕ)) → Sorted L (arranged L)
sorted-is L = record { same = arranged-same L; ascend = arranged-rising L }

sorted-only : {L M : List (List ℕ)} → Sorted L M → M ≡ arranged L
sorted-only w = arranged-only w.ascend w.same

refused-accepted : {A : Type 0} {k : ℕ} {x : A} → refused k ≡ accepted x → ⊥
refused-accepted e = let z : ◌≡◌ {A = ℕ} 0 1 = cc in omega arith

accepted-same : {A : Type 0} {x y : A} → accepted x ≡ accepted y → x ≡ y
accepted-same e = cc

module _ (s : List ℕ) (space : ℕ) where
  -- what is answered where the records are read
  module _ (inside : Sized (length s)) (L : List (List ℕ)) (w : ReadAs s L) where
    judges : arrange_of s space ≡ checked_in space (joined (arranged L))
    judges = reads s space inside.some inside.most (accepted L) ((records-exactly s L).1 w)

    -- by the only list that can be meant
    judged-as : {M : List (List ℕ)} → M ≡ arranged L → arrange_of s space ≡ checked_in space (joined M)
    judged-as e = judges ∙ ap (λ (N : List (List ℕ)). checked_in space (joined N)) (sym e)

    read-bytes : Bytes s → Bytes (joined L)
    read-bytes b = subst Bytes w.bytes b

  -- From the reason to the answer

  from-arranges : Bytes s → {t : List ℕ} → Arranges s space t → arrange_of s space ≡ accepted t
  from-arranges b {t} w =
      let L : List (List ℕ) = w.records in
      let M : List (List ℕ) = w.arrangement in
      let e = passing-only L M (all-records L w.read.each) (read-bytes w.size L w.read b) w.each w.passes in
      judged-as w.size L w.read e
      ∙ accepted-fit (joined M) space 0 (sym w.passes) refl (subst (λ (u : List ℕ). length u ≤ space) w.written w.fits)
      ∙ ap accepted (sym w.written)

  passes : (t : List ℕ) (T : Tables) → read_tables t ≡ accepted T → check_of t ≡ 0
  unfolding check_of
  passes t T e = ap (λ (a : Answer Tables). answer_of no_value a) e

  check-number : (t : List ℕ) (k : ℕ) → read_tables t ≡ refused k → k ≡ check_of t
  unfolding check_of
  check-number t k e = sym (ap (λ (a : Answer Tables). answer_of no_value a) e)

  from-refusal : Bytes s → {k : ℕ} → ArrangeRefused s space k → arrange_of s space ≡ refused k
  unfolding arrange_of
  from-refusal b {k} (size n e) = go (sized (length s)) refl
    where
      go : (c : Bool) → sized (length s) ≡ c → cond c (onward (λ L. checked_in space (joined (arranged L))) (records_of s)) (refused LENGTH) ≡ refused k
      go true h = absurd (n ((sized-exactly (length s)).0 h))
      go false h = ap refused (sym e)
  from-refusal b {k} (unread {L} {front} {rest} inside w parts more none e) =
      reads s space inside.some inside.most (refused k)
      ((unread-exactly s k).1 (
        record {
          records = L;
          rest = rest;
          each = all-records L w.each;
          parts = parts ∙ ap (λ (u : List ℕ). u ++ rest) w.bytes;
          more = more;
          none = whole-first rest none;
        },
        e,
      ))
  from-refusal b {k} (unfit {L} {M} inside w v c) =
      let e = sorted-only v in
      let bytes = subst (λ (N : List (List ℕ)). Bytes (joined N)) (sym e) (arranged-bytes L (read-bytes inside L w b)) in
      let r = refused-range c in
      judged-as inside L w e
      ∙ refused-unfit (joined M) space k (check-number (joined M) k ((check-refused-exactly (joined M) bytes k).1 c)) (λ z. omega (arith, r.0, z))
  from-refusal b (short {L} {M} inside w v q l e) =
      judged-as inside L w (sorted-only v) ∙ refused-short (joined M) space 0 (sym q) refl l ∙ ap refused (sym e)

  -- From the answer to the reason

  abbrev Told : Answer (List ℕ) → Type 0
  Told (refused k) = ArrangeRefused s space k
  Told (accepted t) = Arranges s space t

  told-checked : Bytes s → (inside : Sized (length s)) (L : List (List ℕ)) → ReadAs s L → Told (checked_in space (joined (arranged L)))
  told-checked b inside L w = go (read_tables t) refl
    where
      t : List ℕ
      t = joined (arranged L)

      in-space : check_of t ≡ 0 → (c : Bool) → leb (length t) space ≡ c → Told (cond c (accepted t) (refused OUTPUT))
      in-space q true h =
          record {
            size = inside;
            records = L;
            read = w;
            arrangement = arranged L;
            each = arranged_is L;
            passes = q;
            written = refl;
            fits = leb-true (length t) space h;
          }
      in-space q false h = short inside w (sorted-is L) q (leb-false (length t) space h) refl

      go : (a : Answer Tables) → read_tables t ≡ a → Told (checked_in space t)
      go (refused k) e =
          let c = (check-refused-exactly t (arranged-bytes L (read-bytes inside L w b)) k).0 e in
          let r = refused-range c in
          subst Told (sym (refused-unfit t space k (check-number t k e) (λ z. omega (arith, r.0, z)))) (unfit inside w (sorted-is L) c)
      go (accepted T) e =
          let q : check_of t ≡ 0 = passes t T e in
          subst Told (sym (ap (λ (k : ℕ). judged k (in_space space t)) q)) (in-space q (leb (length t) space) refl)

  told : Bytes s → Told (arrange_of s space)
  unfolding arrange_of
  told b = go (sized (length s)) refl
    where
      behind : Sized (length s) → (o : Answer (List (List ℕ))) → records_of s ≡ o → Told (onward (λ L. checked_in space (joined (arranged L))) o)
      behind inside (refused k) e =
          let u = (unread-exactly s k).0 e in
          let v = u.0 in
          unread inside (record { bytes = refl; each = each-readable v.records v.each }) v.parts v.more (first-whole v.rest v.none) u.1
      behind inside (accepted L) e = told-checked b inside L ((records-exactly s L).0 e)

      go : (c : Bool) → sized (length s) ≡ c → Told (cond c (onward (λ L. checked_in space (joined (arranged L))) (records_of s)) (refused LENGTH))
      go true h = behind ((sized-exactly (length s)).0 h) (records_of s) refl
      go false h = size (λ w. false-true (sym h ∙ (sized-exactly (length s)).1 w)) refl

  module _ (bytes : Bytes s) where
    -- "Given space, it accepts exactly those inputs for which some arrangement, without exact repeats, passes the table check", and it writes it
    pub arrange-exactly : (t : List ℕ) → (arrange_of s space ≡ accepted t) ↔ Arranges s space t
    arrange-exactly t = (λ h. subst Told h (told bytes), from-arranges bytes)

    -- it is refused with a number exactly where its reason holds
    pub arrange-refused-exactly : (k : ℕ) → (arrange_of s space ≡ refused k) ↔ ArrangeRefused s space k
    arrange-refused-exactly k = (λ h. subst Told h (told bytes), from-refusal bytes)

    -- "what it writes is the only such arrangement"
    pub arranged-once : (t u : List ℕ) → Arranges s space t → Arranges s space u → t ≡ u
    arranged-once t u v w = accepted-same (sym (from-arranges bytes v) ∙ from-arranges bytes w)

    -- the numbers are 1, 2, 3, 5, 6 and 30
    pub arrange-numbers : (k : ℕ) → arrange_of s space ≡ refused k → ((0 < k) × (k ≤ 6) × (k ≡ NAME → ⊥)) ⊎ (k ≡ OUTPUT)
    arrange-numbers k h = go (subst Told h (told bytes))
      where
        go : ArrangeRefused s space k → ((0 < k) × (k ≤ 6) × (k ≡ NAME → ⊥)) ⊎ (k ≡ OUTPUT)
        go (size n e) = inl (omega arith, omega arith, λ z. omega (arith, z))
        go (unread inside w parts more none e) = inl (omega arith, omega arith, λ z. omega (arith, z))
        go (unfit inside w v c) = inl (refused-range c)
        go (short inside w v q l e) = inr e

    -- "Accepted tables come out unchanged."
    pub arrange-own : check_of s ≡ 0 → length s ≤ space → arrange_of s space ≡ accepted s
    arrange-own q fits =
        let w = check-passes s bytes q in
        let e = w.bytes in
        from-arranges bytes
        (record {
          size = record { some = w.some; most = w.most };
          records = w.records;
          read = record { bytes = sym e; each = each-readable w.records w.each };
          arrangement = w.records;
          each = record { same = record { there = λ p m. m; back = λ p m. m }; once = rising-once w.ascend };
          passes = ap check_of e ∙ q;
          written = sym e;
          fits = fits;
        })

-- records in any order and repeated are answered alike
pub any_order : (s t : List ℕ) (space : ℕ) (L M : List (List ℕ)) → Sized (length s) → Sized (length t) → ReadAs s L → ReadAs t M → SameMembers L M
    → arrange_of s space ≡ arrange_of t space
any_order s t space L M i j v w h =
    judges s space i L v ∙ ap (λ (N : List (List ℕ)). checked_in space (joined N)) (arranged-equal h) ∙ sym (judges t space j M w)
