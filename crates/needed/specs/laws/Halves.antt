-- A search by halves: the last number at which a test holds that holds at every smaller number too. Assumes nothing.
use Rattle.std.specs.Prelude.{ℕ, ◌+◌, ◌≤◌, ◌<◌, ◌≡◌, refl, ◌⊎◌, Bool, true, false}
use Rattle.std.proofs.Common.{arith, sym, ◌∙◌, subst, inl, inr, ⊎_elim}

-- of the numbers from a to n, the test holds at the one before low, where one is found, and not at high
pub record Halves (h : ℕ → Bool) (a n low high last : ℕ) : Type 0 where
  pub from : a ≤ low
  pub within : low ≤ high
  pub under : high ≤ n + 1
  pub not_at : high ≤ n → h high ≡ false
  pub found : ((low ≡ a) × (last ≡ 129)) ⊎ ((low ≡ last + 1) × (a ≤ last) × (h last ≡ true))

module _ (h : ℕ → Bool) (a n : ℕ) where
  -- nothing is tried
  pub halves-start : a ≤ n → Halves h a n a (n + 1) 129
  halves-start l = record { from = omega arith; within = omega arith; under = omega arith; not_at = λ m. absurd (omega arith); found = inl (refl, refl) }

  module _ (low high last k : ℕ) (l : low ≤ k) (m : k < high) (s : Halves h a n low high last) where
    -- it holds at k
    pub halves-up : {b : Bool} → b ≡ h k → b ≡ true → Halves h a n (k + 1) high k
    halves-up q y =
        let o : a ≤ low = s.from in
        record { from = omega arith; within = omega arith; under = s.under; not_at = s.not_at; found = inr (refl, omega arith, sym q ∙ y) }

    -- it does not
    pub halves-down : {b : Bool} → b ≡ h k → b ≡ false → Halves h a n low k last
    halves-down q y =
        let o : high ≤ n + 1 = s.under in
        record { from = s.from; within = l; under = omega arith; not_at = λ _. sym q ∙ y; found = s.found }

  -- nothing is left between them: the last number at which it holds, and not at the next one; 129 where it does not at a
  pub halves-end : (low high last : ℕ) → n ≤ 128 → a ≤ n → high ≤ low → Halves h a n low high last
      → (last ≤ n → (a ≤ last) × (h last ≡ true)) × (last < n → h (last + 1) ≡ false) × (n < last → h a ≡ false)
  halves-end low high last small l m s =
      let q : high ≡ low = omega (arith, s.within) in
      let under : high ≤ n + 1 = s.under in
      ⊎_elim
      (λ z. let x : low ≡ a = z.0 in let y : last ≡ 129 = z.1 in
      (λ o. absurd (omega arith), λ o. absurd (omega arith), λ _. subst (λ (j : ℕ). h j ≡ false) (q ∙ x) (s.not_at (omega arith))))
      (λ z. let x : low ≡ last + 1 = z.0 in
      (λ _. (z.1, z.2), λ o. subst (λ (j : ℕ). h j ≡ false) (q ∙ x) (s.not_at (omega arith)), λ o. absurd (omega arith)))
      s.found
