-- A test by number over the numbers below n; columns of zeros. Assumes nothing.
use Rattle.std.specs.Prelude.{ℕ, zero, suc, ◌<◌, ◌≡◌, refl, Bool, true, false, ◌||◌, eqb, get_or, replicate}
use Rattle.std.proofs.Common.{arith, sym, ◌∙◌, ap, eqb-true}
use Rattle.std.proofs.lemmas.Bool.{eqb-false}
use Rattle.word.specs.laws.Bools.{or_left, or_right}

pub zeros : (n i : ℕ) → ◌≡◌ {A = ℕ} (get_or (replicate n 0) i 0) 0
zeros zero i = refl
zeros (suc n) zero = refl
zeros (suc n) (suc i) = zeros n i

-- the test f holds somewhere below n
abbrev pub any_to : ℕ → (ℕ → Bool) → Bool
any_to zero f = false
any_to (suc n) f = any_to n f || f n

-- a test that holds at an index below n holds somewhere below n
pub any_to-here : (n : ℕ) (f : ℕ → Bool) (i : ℕ) → i < n → f i ≡ true → any_to n f ≡ true
any_to-here zero f i l h = absurd (omega arith)
any_to-here (suc n) f i l h = go (eqb i n) refl (λ k. any_to-here n f i k h)
  where
    go : (b : Bool) → eqb i n ≡ b → (i < n → any_to n f ≡ true) → (any_to n f || f n) ≡ true
    go true e ih = or_right (any_to n f) (f n) (sym (ap f (eqb-true i n e)) ∙ h)
    go false e ih = or_left (any_to n f) (f n) (ih (omega (arith, eqb-false i n e)))
