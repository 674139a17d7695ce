-- Why what the queue marks has failed. Assumes nothing.
use Rattle.std.specs.Prelude.{ℕ, ◌+◌, ◌-◌, ◌/◌, ◌≤◌, ◌<◌, ◌≡◌, refl, Bool, true, false, ◌&&◌, not, List, eqb, ltb, get_or, length, set, replicate}
use Rattle.std.proofs.Common.{arith, sym, ◌∙◌, ap, subst, ⊎_elim, eqb-true, eq-eqb, ne_eqb, ltb-true, lt-ltb, le-ltb, length-set, get_or-set_same, get_or-set_other}
use Rattle.std.proofs.Math.Bool.{and-false}
use Rattle.std.proofs.lemmas.Bool.{eqb-false, not-true}
use Rattle.std.proofs.lemmas.List.{length-replicate}
use Rattle.word.specs.laws.Bools.{false-true, and_parts, and_both, not-of}
use Rattle.propagation.specs.laws.Flags.{decided, one, cnt, cnt-le, cnt-one, cnt-some, cnt-next, flag, flag_same, flag-other, flag-cases}
use Rattle.propagation.specs.laws.Flags.{flag-zeros}
use Rattle.word.specs.laws.Search.{zeros}
use Rattle.propagation.specs.Flags.{at}
use Rattle.propagation.specs.laws.Satisfied.{Graph, from_at, slot_at, node_at}
use Rattle.propagation.specs.laws.Failed.{brings, child_of, fails_by, failed_of, Sound}
use Rattle.propagation.specs.laws.FailedLaws.{child-find, child-here, fails-mono, failed-closed}
use Rattle.propagation.specs.laws.Failing.{Tallied, Failing}

-- The edges counted

pub tally-start : (G : Graph) → Tallied 0 G (replicate 128 0)
unfolding cnt
tally-start G = record { size = length-replicate {A = ℕ} 128 0; counted = λ p l. zeros 128 p }

module _ (m : ℕ) (G : Graph) (left left' : List ℕ) where
  tally-one : (p : ℕ) (b : Bool) → brings G (λ j. true) p m ≡ b → get_or left p 0 ≡ cnt m (brings G (λ j. true) p)
      → get_or left p 0 + one b ≡ cnt (m + 1) (brings G (λ j. true) p)
  tally-one p b e h = (λ i. h i + one (sym e i)) ∙ sym (cnt-next m (brings G (λ j. true) p))

  -- edge m brings its node x / 4 a child
  pub tally-add : (x : ℕ) → x ≡ slot_at G m → slot_at G m < 512 → from_at G m < 128 → left' ≡ set left (x / 4) (get_or left (x / 4) 0 + 1)
      → Tallied m G left → Tallied (m + 1) G left'
  tally-add x xe few f e t = subst (λ (l : List ℕ). Tallied (m + 1) G l) (sym e) made
    where
      made : Tallied (m + 1) G (set left (x / 4) (get_or left (x / 4) 0 + 1))
      made =
          let z : length left ≡ 128 = t.size in
          let c : get_or (set left (x / 4) (get_or left (x / 4) 0 + 1)) (x / 4) 0
          ≡ get_or left (x / 4) 0 + 1 = get_or-set_same left (x / 4) (get_or left (x / 4) 0 + 1) 0 (omega arith) in
          record {
            size = length-set left (x / 4) (get_or left (x / 4) 0 + 1) ∙ z;
            counted = λ p l. ⊎_elim
                (λ y. let q : p ≡ x / 4 = eqb-true p (x / 4) y in
                ap (λ (n : ℕ). get_or (set left (x / 4) (get_or left (x / 4) 0 + 1)) n 0) q ∙ c ∙ ap (λ (n : ℕ). get_or left n 0 + 1) (sym q)
                ∙ tally-one p true (and_both _ _ (eq-eqb (slot_at G m / 4) p (ap (λ (n : ℕ). n / 4) (sym xe) ∙ sym q))
                (and_both _ _ (lt-ltb (from_at G m) 128 f) refl)) (t.counted p l))
                (λ y. let o : p ≡ x / 4 → ⊥ = eqb-false p (x / 4) y in
                get_or-set_other left (x / 4) p (get_or left (x / 4) 0 + 1) 0 o ∙ (let n : get_or left p 0 ≡ get_or left p 0 + 0 = omega arith in n)
                ∙ tally-one p false (ap (λ (b : Bool). b && (ltb (from_at G m) 128 && true))
                (ne_eqb (slot_at G m / 4) p (λ k. o (sym k ∙ ap (λ (n : ℕ). n / 4) (sym xe))))) (t.counted p l))
                (decided (eqb p (x / 4)));
          }

  pub tally-skip : 128 ≤ from_at G m → left' ≡ left → Tallied m G left → Tallied (m + 1) G left'
  tally-skip f e t = subst (λ (l : List ℕ). Tallied (m + 1) G l) (sym e)
      (record {
        size = t.size;
        counted = λ p l. (let n : get_or left p 0 ≡ get_or left p 0 + 0 = omega arith in n)
            ∙ tally-one p false (ap (λ (b : Bool). eqb (slot_at G m / 4) p && (b && true)) (le-ltb (from_at G m) 128 f)
            ∙ and-false (eqb (slot_at G m / 4) p)) (t.counted p l);
      })

pub tally-low : {m : ℕ} {G : Graph} {left : List ℕ} → Tallied m G left → m ≤ 256 → (p : ℕ) → p < 128 → get_or left p 0 ≤ 256
tally-low {m} {G} {left} t l p h = omega (arith, t.counted p h, cnt-le m (brings G (λ j. true) p))

pub tally-all : (G : Graph) (left : List ℕ) (j m : ℕ) → j ≤ m → m ≤ j → Tallied j G left → Tallied m G left
tally-all G left j m a b t = let z : j ≡ m = omega arith in subst (λ (k : ℕ). Tallied k G left) z t

-- The queue

pub failing-start : (m : ℕ) (G : Graph) (left : List ℕ) → m ≤ 256 → ((j : ℕ) → slot_at G j < 512) → Tallied m G left
    → Failing m G (replicate 128 0) left (replicate 256 0)
failing-start m G left few slots t =
    record {
      few = few;
      slots = slots;
      failed-size = length-replicate {A = ℕ} 128 0;
      left-size = t.size;
      gone-size = length-replicate {A = ℕ} 256 0;
      sound = λ i h. absurd (false-true (sym (flag-zeros 128 i) ∙ h));
      gone-sound = λ j h. absurd (false-true (sym (flag-zeros 256 j) ∙ h));
      counted = λ p l. t.counted p l ∙ (λ i. cnt m (brings G (λ j. not (sym (flag-zeros 256 j) i)) p));
    }

pub failing-sound : {m : ℕ} {G : Graph} {failed left gone : List ℕ} → Failing m G failed left gone → Sound m G failed
failing-sound w = record { size = w.failed-size; sound = w.sound }

module _ (m : ℕ) (G : Graph) (failed left gone : List ℕ) (w : Failing m G failed left gone) where
  -- an edge that brings a child that has not failed is still counted
  alive-left : (p : ℕ) → p < 128 → child_of m G (λ f. not (at (failed_of m G) f)) p ≡ true → not (eqb (get_or left p 0) 0) ≡ true
  alive-left p l h =
      let r = child-find m G (λ f. not (at (failed_of m G) f)) p h in
      let off : flag gone r.0 ≡ false = not-of (flag gone r.0)
      (λ y. false-true (sym (not-true (at (failed_of m G) (from_at G r.0)) r.4) ∙ w.gone-sound r.0 y)) in
      let c : 0 < cnt m (brings G (λ j. not (flag gone j)) p)
      = cnt-some m (brings G (λ j. not (flag gone j)) p) r.0 r.1
      (and_both _ _ (eq-eqb (slot_at G r.0 / 4) p r.2) (and_both _ _ (lt-ltb (from_at G r.0) 128 r.3) (ap not off))) in
      ap not (ne_eqb (get_or left p 0) 0 (λ y. omega (arith, w.counted p l)))

  -- node p fails by what is left and by what an edge brought
  pub failing-node : (p : ℕ) (hit : Bool) → p < 128 → (hit ≡ true → child_of m G (at (failed_of m G)) p ≡ true)
      → fails_by (node_at G p) (not (eqb (get_or left p 0) 0)) hit ≡ true → Failing m G (set failed p 1) left gone
  failing-node p hit l k h =
      let z : length failed ≡ 128 = w.failed-size in
      let holds : at (failed_of m G) p ≡ true = failed-closed m G p l (fails-mono (node_at G p) _ _ _ _ (alive-left p l) k h) in
      record {
        few = w.few;
        slots = w.slots;
        failed-size = length-set failed p 1 ∙ z;
        left-size = w.left-size;
        gone-size = w.gone-size;
        sound = λ i t. ⊎_elim (λ e. ap (at (failed_of m G)) e ∙ holds) (w.sound i) (flag-cases failed p i t);
        gone-sound = w.gone-sound;
        counted = w.counted;
      }

  module _ (j f x : ℕ) (jl : j < m) (fe : f ≡ from_at G j) (xe : x ≡ slot_at G j) (on : (ltb f 128 && flag failed f) ≡ true) (off : get_or gone j 0 ≡ 1 → ⊥) where
    from_low : from_at G j < 128
    from_low = let l : f < 128 = ltb-true f 128 (and_parts (ltb f 128) (flag failed f) on).0 in omega arith

    from-failed : at (failed_of m G) (from_at G j) ≡ true
    from-failed = w.sound (from_at G j) (ap (flag failed) (sym fe) ∙ (and_parts (ltb f 128) (flag failed f) on).1)

    cut-place : x / 4 < 128
    cut-place = omega (arith, w.slots j)

    -- edge j brings its node a failed child
    cut-hit : child_of m G (at (failed_of m G)) (x / 4) ≡ true
    cut-hit = child-here m G (at (failed_of m G)) (x / 4) j jl (ap (λ (n : ℕ). n / 4) (sym xe)) from_low from-failed

    was : brings G (λ i. not (flag gone i)) (x / 4) j ≡ true
    was =
        and_both _ _ (eq-eqb (slot_at G j / 4) (x / 4) (ap (λ (n : ℕ). n / 4) (sym xe)))
        (and_both _ _ (lt-ltb (from_at G j) 128 from_low) (ap not (ne_eqb (get_or gone j 0) 1 off)))

    -- it was counted
    cut_left : 0 < get_or left (x / 4) 0
    cut_left = omega (arith, w.counted (x / 4) cut-place, cnt-some m (brings G (λ i. not (flag gone i)) (x / 4)) j jl was)

    -- it is not counted any more
    cut_edge : Failing m G failed (set left (x / 4) (get_or left (x / 4) 0 - 1)) (set gone j 1)
    cut_edge =
        let ls : length left ≡ 128 = w.left-size in
        let gs : length gone ≡ 256 = w.gone-size in
        let few : m ≤ 256 = w.few in
        let place : x / 4 < 128 = cut-place in
        let inside : j < length gone = omega arith in
        let c : get_or (set left (x / 4) (get_or left (x / 4) 0 - 1)) (x / 4) 0
        ≡ get_or left (x / 4) 0 - 1 = get_or-set_same left (x / 4) (get_or left (x / 4) 0 - 1) 0 (omega arith) in
        let now : brings G (λ i. not (flag (set gone j 1) i)) (x / 4) j ≡ false
        = ap (λ (b : Bool). eqb (slot_at G j / 4) (x / 4) && (ltb (from_at G j) 128 && not b)) (flag_same gone j inside)
        ∙ ap (λ (b : Bool). eqb (slot_at G j / 4) (x / 4) && b) (and-false (ltb (from_at G j) 128)) ∙ and-false (eqb (slot_at G j / 4) (x / 4)) in
        let one_less : cnt m (brings G (λ i. not (flag gone i)) (x / 4)) ≡ cnt m (brings G (λ i. not (flag (set gone j 1) i)) (x / 4)) + 1
        = cnt-one m (brings G (λ i. not (flag (set gone j 1) i)) (x / 4)) (brings G (λ i. not (flag gone i)) (x / 4)) j jl now was
        (λ i o. ap (λ (b : Bool). eqb (slot_at G i / 4) (x / 4) && (ltb (from_at G i) 128 && not b)) (sym (flag-other gone j i o))) in
        record {
          few = few;
          slots = w.slots;
          failed-size = w.failed-size;
          left-size = length-set left (x / 4) (get_or left (x / 4) 0 - 1) ∙ ls;
          gone-size = length-set gone j 1 ∙ gs;
          sound = w.sound;
          gone-sound = λ i t. ⊎_elim (λ e. ap (λ (n : ℕ). at (failed_of m G) (from_at G n)) e ∙ from-failed) (w.gone-sound i) (flag-cases gone j i t);
          counted = λ p l. ⊎_elim
              (λ y. let q : p ≡ x / 4 = eqb-true p (x / 4) y in
              let k : get_or left (x / 4) 0 ≡ cnt m (brings G (λ i. not (flag gone i)) (x / 4)) = w.counted (x / 4) place in
              let d : get_or left (x / 4) 0 - 1 ≡ cnt m (brings G (λ i. not (flag (set gone j 1) i)) (x / 4)) = omega arith in
              subst (λ (n : ℕ). get_or (set left (x / 4) (get_or left (x / 4) 0 - 1)) n 0 ≡ cnt m (brings G (λ i. not (flag (set gone j 1) i)) n)) (sym q) (c ∙ d))
              (λ y. let o : p ≡ x / 4 → ⊥ = eqb-false p (x / 4) y in
              get_or-set_other left (x / 4) p (get_or left (x / 4) 0 - 1) 0 o ∙ w.counted p l ∙ (λ k. cnt m (λ i. other p o i k)))
              (decided (eqb p (x / 4)));
        }
      where
        -- for another node nothing changes
        other : (p : ℕ) → (p ≡ x / 4 → ⊥) → (i : ℕ) → brings G (λ i. not (flag gone i)) p i ≡ brings G (λ i. not (flag (set gone j 1) i)) p i
        other p o i = ⊎_elim
            (λ e. let z : i ≡ j = eqb-true i j e in
            let n : eqb (slot_at G i / 4) p ≡ false = ne_eqb (slot_at G i / 4) p
            (λ k. o (sym k ∙ ap (λ (n : ℕ). slot_at G n / 4) z ∙ ap (λ (n : ℕ). n / 4) (sym xe))) in
            ap (λ (b : Bool). b && (ltb (from_at G i) 128 && not (flag gone i))) n
            ∙ sym (ap (λ (b : Bool). b && (ltb (from_at G i) 128 && not (flag (set gone j 1) i))) n))
            (λ e. ap (λ (b : Bool). eqb (slot_at G i / 4) p && (ltb (from_at G i) 128 && not b)) (sym (flag-other gone j i (eqb-false i j e))))
            (decided (eqb i j))

    -- what the code asks before and after
    pub drop_all : (x / 4 < 128) × (0 < get_or left (x / 4) 0) × (child_of m G (at (failed_of m G)) (x / 4) ≡ true)
        × Failing m G failed (set left (x / 4) (get_or left (x / 4) 0 - 1)) (set gone j 1)
    drop_all = (cut-place, cut_left, cut-hit, cut_edge)
