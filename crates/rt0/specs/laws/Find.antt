-- The first of a list that passes a test. Assumes nothing.
use Rattle.std.specs.Prelude.{ℕ, zero, suc, ◌+◌, ◌≤◌, ◌<◌, ◌≡◌, refl, Bool, true, false, cond, ◌||◌, List, [], ◌∷◌, ◌++◌, eqb}
use Rattle.std.proofs.Common.{arith, add-one, sym, ◌∙◌, ap, ap₂, eqb-true}
use Rattle.std.proofs.lemmas.Bool.{eqb-false}
use Rattle.rt0.specs.Pool.{up_to}
use Rattle.rt0.specs.Lists.{any, first_or}

-- the first j elements all fail the test
pub record Missed {A : Type 0} (t : A → Bool) (g : ℕ → A) (j : ℕ) : Type 0 where
  pub none : (i : ℕ) → i < j → t (g i) ≡ false

module _ {A : Type 0} where
  -- no element has been tested yet
  pub missed-start : (t : A → Bool) (g : ℕ → A) → Missed t g 0
  missed-start t g = record { none = λ i l. absurd (omega arith) }

  -- the next element fails the test as well
  pub missed_more : {t : A → Bool} {g : ℕ → A} {j : ℕ} {b : Bool} → Missed t g j → b ≡ t (g j) → b ≡ false → Missed t g (j + 1)
  missed_more {t} {g} {j} h e m = record { none = λ i l. go i l (eqb i j) refl }
    where
      go : (i : ℕ) → i < j + 1 → (s : Bool) → eqb i j ≡ s → t (g i) ≡ false
      go i l true q = ap (λ (k : ℕ). t (g k)) (eqb-true i j q) ∙ (sym e ∙ m)
      go i l false q = h.none i (omega (arith, eqb-false i j q))

  -- fewer elements all fail the test as well
  pub missed-fewer : {t : A → Bool} {g : ℕ → A} {j n : ℕ} → Missed t g j → n ≤ j → Missed t g n
  missed-fewer h l = record { none = λ i k. h.none i (omega arith) }

module _ {A B : Type 0} (t : A → Bool) (v : A → B) where
  -- an element at the end decides only where no other one does
  first-last : (d : B) (xs : List A) (y : A) → first_or t v d (xs ++ (y ∷ [])) ≡ first_or t v (cond (t y) (v y) d) xs
  first-last d [] y = refl
  first-last d (x ∷ xs) y = ap (λ (r : B). cond (t x) (v x) r) (first-last d xs y)

  -- one element more, by its test
  first_next : (d : B) (g : ℕ → A) (n : ℕ) (b : Bool) → t (g n) ≡ b → first_or t v d (up_to (suc n) g) ≡ first_or t v (cond b (v (g n)) d) (up_to n g)
  first_next d g n b e = first-last d (up_to n g) (g n) ∙ ap (λ (s : Bool). first_or t v (cond s (v (g n)) d) (up_to n g)) e

module _ {A B : Type 0} {t : A → Bool} {g : ℕ → A} (v : A → B) where
  -- where all elements fail the test, it is the other value
  pub first-none : (d : B) (n : ℕ) → Missed t g n → first_or t v d (up_to n g) ≡ d
  first-none d zero h = refl
  first-none d (suc n) h = first_next t v d g n false (h.none n (omega arith)) ∙ first-none d n (missed-fewer h (omega arith))

  -- where j is the first index whose element passes the test, it is the value of this element
  pub first-at : (d : B) (n : ℕ) {j : ℕ} → Missed t g j → j < n → t (g j) ≡ true → first_or t v d (up_to n g) ≡ v (g j)
  first-at d zero h l e = absurd (omega arith)
  first-at d (suc n) {j} h l e = go (eqb j n) refl (λ k. first-at (cond (t (g n)) (v (g n)) d) n h k e)
    where
      go : (s : Bool) → eqb j n ≡ s → (j < n → first_or t v (cond (t (g n)) (v (g n)) d) (up_to n g) ≡ v (g j)) → first_or t v d (up_to (suc n) g) ≡ v (g j)
      go true q ih =
          let z : j ≡ n = eqb-true j n q in
          first_next t v d g n true (sym (ap (λ (k : ℕ). t (g k)) z) ∙ e)
          ∙ (first-none (v (g n)) n (missed-fewer h (omega arith)) ∙ sym (ap (λ (k : ℕ). v (g k)) z))
      go false q ih = first_next t v d g n (t (g n)) refl ∙ ih (omega (arith, eqb-false j n q))

module _ {A : Type 0} where
  -- whether any element passes is whether one is found
  pub any-first : (t : A → Bool) (L : List A) → any t L ≡ first_or t (λ x. true) false L
  any-first t [] = refl
  any-first t (x ∷ xs) = go (t x) (any-first t xs)
    where
      go : (s : Bool) → any t xs ≡ first_or t (λ x. true) false xs → (s || any t xs) ≡ cond s true (first_or t (λ x. true) false xs)
      go true h = refl
      go false h = h

module _ {A : Type 0} {t : A → Bool} {g : ℕ → A} where
  -- the search has come to an element that passes
  pub any_at : (n : ℕ) {j : ℕ} {b : Bool} → Missed t g j → j < n → b ≡ t (g j) → b ≡ true → true ≡ any t (up_to n g)
  any_at n h l e p = sym (any-first t (up_to n g) ∙ first-at (λ x. true) false n h l (sym e ∙ p))

  -- the search has come to the end
  pub any_none : (n : ℕ) {j : ℕ} → Missed t g j → n ≤ j → false ≡ any t (up_to n g)
  any_none n h l = sym (any-first t (up_to n g) ∙ first-none (λ x. true) false n (missed-fewer h l))

module _ {A : Type 0} (t : A → Bool) where
  -- whether any passes, with one more at the end
  any_last : (xs : List A) (y : A) → any t (xs ++ (y ∷ [])) ≡ (any t xs || t y)
  any_last [] y = go (t y)
    where
      go : (b : Bool) → (b || false) ≡ b
      go true = refl
      go false = refl
  any_last (x ∷ xs) y = go (t x) (any_last xs y)
    where
      go : (b : Bool) → any t (xs ++ (y ∷ [])) ≡ (any t xs || t y) → (b || any t (xs ++ (y ∷ []))) ≡ ((b || any t xs) || t y)
      go true h = refl
      go false h = h

  -- one element more is tested
  pub any-more : (g : ℕ → A) (n : ℕ) {b c : Bool} → b ≡ any t (up_to n g) → c ≡ t (g n) → (b || c) ≡ any t (up_to (n + 1) g)
  any-more g n h e = ap₂ (λ (p q : Bool). p || q) h e ∙ sym (ap (λ (m : ℕ). any t (up_to m g)) (add-one n) ∙ any_last (up_to n g) (g n))
