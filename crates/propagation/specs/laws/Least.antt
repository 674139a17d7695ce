-- The least solution of a monotone rule: laws. Assumes nothing.
use Prim.Native.Nat.{ℕ, zero, suc, ◌+◌, ◌≤◌, ◌<◌}
use native.Mathlib.Omega.{arith}
use Rattle.std.specs.Prelude.{◌≡◌, ◌⊎◌, Bool, false, ◌&&◌, not}
use Rattle.std.proofs.Common.{sym, ◌∙◌, inl, inr}
use Rattle.std.proofs.Math.Path.{ap}
use Rattle.std.proofs.Math.Logic.{⊎_elim}
use Rattle.std.proofs.Math.Bool.{true}
use Rattle.std.proofs.lemmas.Bool.{not-true}
use Rattle.word.specs.laws.Bools.{false-true, and_parts, and_both}
use Rattle.propagation.specs.laws.Flags.{decided, any_to-find, tab-find, tab-here, cnt, cnt-le, cnt-more}
use Rattle.propagation.specs.Flags.{at}
use Rattle.propagation.specs.Least.{Rule, rounds, least}
use Rattle.word.specs.laws.Search.{any_to, any_to-here}

-- a larger set brings no less
pub record Monotone (F : Rule) : Type 0 where
  pub mono : (s t : ℕ → Bool) → ((i : ℕ) → s i ≡ true → t i ≡ true) → (i : ℕ) → F s i ≡ true → F t i ≡ true

module _ (F : Rule) (n : ℕ) (m : Monotone F) where
  out : (k i : ℕ) → at (rounds F n (suc k)) i ≡ true → (i < n) × (F (at (rounds F n k)) i ≡ true)
  unfolding rounds
  out k i h = let r = tab-find (F (at (rounds F n k))) 0 n i h in let e : 0 + i ≡ i = omega arith in (r.0, ap (F (at (rounds F n k))) (sym e) ∙ r.1)

  into : (k i : ℕ) → i < n → F (at (rounds F n k)) i ≡ true → at (rounds F n (suc k)) i ≡ true
  unfolding rounds
  into k i l h = let e : 0 + i ≡ i = omega arith in tab-here (F (at (rounds F n k))) 0 n i l (ap (F (at (rounds F n k))) e ∙ h)

  nothing : (i : ℕ) → at (rounds F n 0) i ≡ true → ⊥
  unfolding rounds
  nothing i h = false-true h

  grows : (k i : ℕ) → at (rounds F n k) i ≡ true → at (rounds F n (suc k)) i ≡ true
  grows zero i h = absurd (nothing i h)
  grows (suc k) i h = let r = out k i h in into (suc k) i r.0 (m.mono (at (rounds F n k)) (at (rounds F n (suc k))) (grows k) i r.1)

  -- a round adds nothing
  abbrev Still : ℕ → Type 0
  Still k = (i : ℕ) → at (rounds F n (suc k)) i ≡ true → at (rounds F n k) i ≡ true

  still-or : (k : ℕ) → Still k ⊎ (cnt n (at (rounds F n k)) + 1 ≤ cnt n (at (rounds F n (suc k))))
  still-or k = ⊎_elim found none (decided (any_to n (λ i. at (rounds F n (suc k)) i && not (at (rounds F n k) i))))
    where
      found : any_to n (λ i. at (rounds F n (suc k)) i && not (at (rounds F n k) i)) ≡ true
          → Still k ⊎ (cnt n (at (rounds F n k)) + 1 ≤ cnt n (at (rounds F n (suc k))))
      found h =
          let r = any_to-find n (λ i. at (rounds F n (suc k)) i && not (at (rounds F n k) i)) h in
          let p = and_parts (at (rounds F n (suc k)) r.0) (not (at (rounds F n k) r.0)) r.2 in
          inr (cnt-more n (at (rounds F n k)) (at (rounds F n (suc k))) (λ i l. grows k i) r.0 r.1 (not-true (at (rounds F n k) r.0) p.1) p.0)

      none : any_to n (λ i. at (rounds F n (suc k)) i && not (at (rounds F n k) i)) ≡ false
          → Still k ⊎ (cnt n (at (rounds F n k)) + 1 ≤ cnt n (at (rounds F n (suc k))))
      none h =
          inl (λ i a. ⊎_elim (λ y. y) (λ x. absurd
          (false-true (sym h ∙ any_to-here n (λ i. at (rounds F n (suc k)) i && not (at (rounds F n k) i)) i (out k i a).0
          (and_both (at (rounds F n (suc k)) i) (not (at (rounds F n k) i)) a (ap not x))))) (decided (at (rounds F n k) i)))

  reach : (k : ℕ) → Still k ⊎ (k + 1 ≤ cnt n (at (rounds F n (suc k))))
  reach zero = ⊎_elim (λ s. inl s) (λ c. inr (omega arith)) (still-or zero)
  reach (suc k) =
      ⊎_elim (λ s. inl (λ i h. let r = out (suc k) i h in into k i r.0 (m.mono (at (rounds F n (suc k))) (at (rounds F n k)) s i r.1)))
      (λ c. ⊎_elim (λ s. inl s) (λ d. inr (omega arith)) (still-or (suc k))) (reach k)

  -- what it brings stands in it
  pub least-closed : (i : ℕ) → i < n → F (at (least F n)) i ≡ true → at (least F n) i ≡ true
  unfolding least
  least-closed i l h =
      ⊎_elim (λ s. s i (into n i l h)) (λ c. absurd (omega (arith, cnt-le n (at (rounds F n (suc n)))))) (reach n)

  -- it is part of every set that has what it brings
  pub least-below : (s : ℕ → Bool) → ((i : ℕ) → i < n → F s i ≡ true → s i ≡ true) → (i : ℕ) → at (least F n) i ≡ true → s i ≡ true
  unfolding least
  least-below s c i h = go n i h
    where
      go : (k i : ℕ) → at (rounds F n k) i ≡ true → s i ≡ true
      go zero i h = absurd (nothing i h)
      go (suc k) i h = let r = out k i h in c i r.0 (m.mono (at (rounds F n k)) s (go k) i r.1)

  -- it is below n
  pub least-within : (i : ℕ) → at (least F n) i ≡ true → i < n
  unfolding least
  least-within i h = (out n i (grows n i h)).0

-- a rule that brings no less has a solution no smaller
pub least-mono : (F G : Rule) (n : ℕ) → Monotone F → Monotone G → ((s : ℕ → Bool) (i : ℕ) → F s i ≡ true → G s i ≡ true) → (i : ℕ)
    → at (least F n) i ≡ true → at (least G n) i ≡ true
least-mono F G n f g h = least-below F n f (at (least G n)) (λ i l k. least-closed G n g i l (h (at (least G n)) i k))

-- what each round keeps holds of it
pub least-into : (F : Rule) (n : ℕ) → Monotone F → (P : ℕ → Type 0)
    → ((s : ℕ → Bool) → ((i : ℕ) → s i ≡ true → P i) → (i : ℕ) → i < n → F s i ≡ true → P i) → (i : ℕ) → at (least F n) i ≡ true → P i
unfolding least
least-into F n m P step i h = go n i h
  where
    go : (k i : ℕ) → at (rounds F n k) i ≡ true → P i
    go zero i h = absurd (nothing F n m i h)
    go (suc k) i h = let r = out F n m k i h in step (at (rounds F n k)) (go k) i r.0 r.1
