-- Searches by index. Assumes nothing.
use Rattle.std.specs.Prelude.{ℕ, zero, suc, ◌+◌, ◌≤◌, ◌<◌, ◌≡◌, refl, ◌⊎◌, Bool, true, false, ◌||◌, cond, eqb}
use Rattle.std.proofs.Common.{arith, add-one, sym, ◌∙◌, ap, subst, inl, inr, eqb-true}
use Rattle.std.proofs.lemmas.Bool.{eqb-false}
use Rattle.word.specs.laws.Bools.{false-true}
use Rattle.word.specs.laws.Search.{any_to, any_to-here}
use Rattle.rules.specs.laws.Table.{first_to}

-- a test holds somewhere or nowhere
pub any-cases : (n : ℕ) (f : ℕ → Bool) → (any_to n f ≡ true) ⊎ (any_to n f ≡ false)
any-cases n f = go (any_to n f) refl
  where
    go : (t : Bool) → any_to n f ≡ t → (any_to n f ≡ true) ⊎ (any_to n f ≡ false)
    go true e = inl e
    go false e = inr e

-- where the test holds somewhere, the first index is below n and passes it
pub first_found : (n : ℕ) (f : ℕ → Bool) → any_to n f ≡ true → (first_to n f < n) × (f (first_to n f) ≡ true)
first_found zero f h = absurd (false-true h)
first_found (suc n) f h = go (any_to n f) (f n) refl refl h (λ k. first_found n f k)
  where
    go : (t u : Bool) → any_to n f ≡ t → f n ≡ u → (t || u) ≡ true → (any_to n f ≡ true → (first_to n f < n) × (f (first_to n f) ≡ true))
        → (cond t (first_to n f) (cond u n 128) < suc n) × (f (cond t (first_to n f) (cond u n 128)) ≡ true)
    go true u e k q ih = let r = ih e in let l : first_to n f < n = r.0 in (omega arith, r.1)
    go false true e k q ih = (omega arith, k)
    go false false e k q ih = absurd (false-true q)

-- where the test holds nowhere, the first index is 128
pub first-none : (n : ℕ) (f : ℕ → Bool) → any_to n f ≡ false → first_to n f ≡ 128
first-none zero f h = refl
first-none (suc n) f h = go (any_to n f) (f n) h
  where
    go : (t u : Bool) → (t || u) ≡ false → cond t (first_to n f) (cond u n 128) ≡ 128
    go true u q = absurd (false-true (sym q))
    go false true q = absurd (false-true (sym q))
    go false false q = refl

-- A loop that looks at one index after another

-- a hit at j: the test holds somewhere
pub found_at : {n : ℕ} (f : ℕ → Bool) (j : ℕ) {b : Bool} → j < n → b ≡ f j → b ≡ true → true ≡ any_to n f
found_at {n} f j l e h = sym (any_to-here n f j l (sym e ∙ h))

-- a miss at j: the test holds nowhere up to j + 1
pub not_at : (f : ℕ → Bool) (j : ℕ) {b : Bool} → any_to j f ≡ false → b ≡ f j → b ≡ false → any_to (j + 1) f ≡ false
not_at f j none e h = rw add-one (rw none (sym e ∙ h))

-- misses up to n: the test holds nowhere
pub nowhere : {n : ℕ} (f : ℕ → Bool) (j : ℕ) → j ≤ n → n ≤ j → any_to j f ≡ false → false ≡ any_to n f
nowhere {n} f j l g none = let e : j ≡ n = omega arith in sym (subst (λ (i : ℕ). any_to i f ≡ false) e none)

-- a hit at j after misses only: j is the first index
pub first-at : (n : ℕ) (f : ℕ → Bool) (j : ℕ) {b : Bool} → j < n → any_to j f ≡ false → b ≡ f j → b ≡ true → j ≡ first_to n f
first-at zero f j l none e h = absurd (omega arith)
first-at (suc n) f j {b} l none e h = go (eqb j n) refl (λ k. first-at n f j k none e h)
  where
    go : (t : Bool) → eqb j n ≡ t → (j < n → j ≡ first_to n f) → j ≡ first_to (suc n) f
    go true q ih =
        let z : j ≡ n = eqb-true j n q in
        let a : any_to n f ≡ false = rw z at none in
        let fn : f n ≡ true = sym (ap f z) ∙ (sym e ∙ h) in
        rw (a, fn) z
    go false q ih =
        let l' : j < n = omega (arith, eqb-false j n q) in
        let a : any_to n f ≡ true = any_to-here n f j l' (sym e ∙ h) in
        rw a (ih l')

-- misses up to n: the first index is 128
pub first-nowhere : (n : ℕ) (f : ℕ → Bool) (j : ℕ) → j ≤ n → n ≤ j → any_to j f ≡ false → 128 ≡ first_to n f
first-nowhere n f j l g none = let z : j ≡ n = omega arith in sym (first-none n f (rw z at none))
