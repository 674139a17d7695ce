-- What the code finds on the way is what the answer says. Assumes nothing.
use Rattle.std.specs.Prelude.{ℕ, zero, suc, ◌<◌, ◌≤◌, ◌≡◌, refl, Bool, true, ◌&&◌, List, map, ltb, leb, length, take, Option, Some, None}
use Rattle.std.proofs.Common.{sym, ap, ◌∙◌, subst, arith, lt-ltb, le-leb}
use Rattle.std.proofs.Math.Bool.{cond}
use Rattle.std.proofs.lemmas.Bool.{lt-leb}
use Rattle.numbers.specs.Answer.{Answer, refused, accepted, judged, onward}
use Rattle.numbers.specs.Refusals.{LENGTH, COMMAND, OUTPUT}
use Rattle.numbers.specs.Sizes.{MOST-TABLES-BYTES}
use Rattle.expression.specs.Bytes.{pasted}
use Rattle.expression.specs.laws.There.{pasted-front}
use Rattle.tables.specs.Check.{sized, check_of}
use Rattle.arrange.specs.Records.{records_of, joined}
use Rattle.arrange.specs.Arranged.{arranged}
use Rattle.arrange.specs.laws.Records.{records-back}
use Rattle.arrange.specs.laws.Arranged.{arranged-equal, map_same}
use Rattle.arrange.specs.laws.Permuted.{permuted-same, permuted-bytes}
use Rattle.arrange.specs.laws.Entries.{record_of, Entries, Listed, Ordered}
use Rattle.arrange.specs.Arrange.{in_space, checked_in, arrange_of, tables_left}

-- the records of s are laid out in order, as the first bytes of out, or one is unknown or cut
pub record LaidOut (s out : List ℕ) (n : ℕ) : Type 0 where
  pub records : List (List ℕ)
  pub split : records_of s ≡ accepted records
  pub room : n ≤ length out
  pub few : n ≤ 4096
  pub there : take n out ≡ joined (arranged records)

abbrev pub Lays : List ℕ → List ℕ → Option ℕ → Type 0
Lays s out (Some n) = LaidOut s out n
Lays s out None = records_of s ≡ refused COMMAND

-- records at sorted places have the arrangement of the records
pub laid_out : {s P Q out : List ℕ} {n : ℕ} → Listed s P → Ordered s P Q → n ≤ length out → n ≤ 4096 → take n out ≡ joined (arranged (map (record_of s) Q)) → LaidOut s out n
laid_out {s} {P} {Q} l w h k e =
    record {
      records = map (record_of s) P;
      split = l.records;
      room = h;
      few = k;
      there = e ∙ ap joined (sym (arranged-equal (map_same (record_of s) (permuted-same w.permuted))));
    }

pub sorted_entries : {s P Q : List ℕ} → Entries s P → Ordered s P Q → Entries s Q
sorted_entries h w p m = h p ((permuted-same w.permuted).back p m)

-- The refusals

sized-true : (n : ℕ) → 0 < n → n ≤ MOST-TABLES-BYTES → sized n ≡ true
unfolding sized
sized-true n h k = λ i. lt-ltb 0 n h i && le-leb n MOST-TABLES-BYTES k i

abbrev behind_records : ℕ → Answer (List (List ℕ)) → Answer (List ℕ)
behind_records space o = onward (λ L. checked_in space (joined (arranged L))) o

pub refused-few : (s : List ℕ) (space : ℕ) → length s ≡ 0 → arrange_of s space ≡ refused LENGTH
unfolding arrange_of sized
refused-few s space h = λ i. cond (ltb 0 (h i) && leb (h i) MOST-TABLES-BYTES) (behind_records space (records_of s)) (refused LENGTH)

pub refused-many : (s : List ℕ) (space : ℕ) → MOST-TABLES-BYTES < length s → arrange_of s space ≡ refused LENGTH
unfolding arrange_of sized
refused-many s space h =
    λ i. cond (lt-ltb 0 (length s) (omega arith) i && lt-leb (length s) MOST-TABLES-BYTES h i) (behind_records space (records_of s)) (refused LENGTH)

module _ (s : List ℕ) (space : ℕ) (some_bytes : 0 < length s) (few : length s ≤ MOST-TABLES-BYTES) where
  pub reads : (o : Answer (List (List ℕ))) → records_of s ≡ o → arrange_of s space ≡ behind_records space o
  unfolding arrange_of
  reads o e = λ i. cond (sized-true (length s) some_bytes few i) (behind_records space (e i)) (refused LENGTH)

  pub refused-unread : records_of s ≡ refused COMMAND → arrange_of s space ≡ refused COMMAND
  refused-unread e = reads (refused COMMAND) e

  -- records laid out are judged
  pub judged-laid : {out : List ℕ} {n : ℕ} → LaidOut s out n → arrange_of s space ≡ checked_in space (take n out)
  judged-laid w = reads (accepted w.records) w.split ∙ ap (checked_in space) (sym w.there)

module _ (t : List ℕ) (space k : ℕ) (e : k ≡ check_of t) where
  pub refused-unfit : (k ≡ 0 → ⊥) → checked_in space t ≡ refused k
  refused-unfit h = subst (λ (m : ℕ). judged m (in_space space t) ≡ refused k) e (go k h)
    where
      go : (m : ℕ) → (m ≡ 0 → ⊥) → judged m (in_space space t) ≡ refused m
      go zero q = absurd (q refl)
      go (suc m) q = refl

  fit : k ≡ 0 → checked_in space t ≡ in_space space t
  fit h = ap (λ (m : ℕ). judged m (in_space space t)) (sym e ∙ h)

  pub refused-short : k ≡ 0 → space < length t → checked_in space t ≡ refused OUTPUT
  refused-short h l = fit h ∙ ap (λ (b : Bool). cond b (accepted t) (refused OUTPUT)) (lt-leb (length t) space l)

  pub accepted-fit : k ≡ 0 → length t ≤ space → checked_in space t ≡ accepted t
  accepted-fit h l = fit h ∙ ap (λ (b : Bool). cond b (accepted t) (refused OUTPUT)) (le-leb (length t) space l)

-- the tables at the front of the buffer
pub pasted-left : (d t : List ℕ) (a : Answer (List ℕ)) → a ≡ accepted t → pasted d 0 t ≡ tables_left d a
pasted-left d t a e = pasted-front d t ∙ sym (ap (tables_left d) e)

-- the bytes of the records are those of the input
pub listed-bytes : {s P : List ℕ} → Listed s P → joined (map (record_of s) P) ≡ s
listed-bytes {s} {P} l = (records-back s (map (record_of s) P) l.records).0

-- sorted places lead to the bytes of the input
pub sorted-bytes : {s P Q : List ℕ} → Listed s P → Ordered s P Q → length (joined (map (record_of s) Q)) ≡ length s
sorted-bytes {s} {P} {Q} l w = sym (permuted-bytes (record_of s) P Q w.permuted) ∙ ap length (listed-bytes l)
