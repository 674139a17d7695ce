-- Numbers that a loop may pass over. Assumes nothing.
use Rattle.std.specs.Prelude.{ℕ, zero, suc, ◌+◌, ◌-◌, ◌≤◌, ◌<◌, ◌≡◌, Bool, true, false, eqb, ltb}
use native.Mathlib.Omega.{arith}
use Rattle.std.proofs.Common.{sym, ◌∙◌, ⊎_elim, eqb-true, ltb-true, ltb-false}
use Rattle.std.proofs.Math.Path.{ap}
use Rattle.std.proofs.lemmas.Bool.{eqb-false}
use Rattle.propagation.specs.laws.Flags.{decided}
use Rattle.rt0.specs.laws.Find.{Missed}
use Rattle.moves.specs.declared.Choice.{Choice}
use Rattle.candidates.specs.laws.Offers.{turned, folded}

-- no number from a to r, which is at most m, passes the test
pub record Skipped (test : ℕ → Bool) (a m r : ℕ) : Type 0 where
  pub from : a ≤ r
  pub within : r ≤ m
  pub none : (j : ℕ) → a ≤ j → j < r → test j ≡ false

-- r is the first number from a on that passes the test, or m
pub record First (test : ℕ → Bool) (a m r : ℕ) : Type 0 where
  pub skipped : Skipped test a m r
  pub passes : r < m → test r ≡ true

module _ (test : ℕ → Bool) where
  pub skipped-start : {a m : ℕ} → a ≤ m → Skipped test a m a
  skipped-start l = record { from = omega arith; within = l; none = λ j h k. absurd (omega arith) }

  pub skipped-next : {a m r : ℕ} {b : Bool} → Skipped test a m r → r < m → b ≡ test r → b ≡ false → Skipped test a m (r + 1)
  skipped-next {a} {m} {r} S l e z =
      let f = S.from in
      record {
        from = omega arith;
        within = omega arith;
        none = λ j h k.
            ⊎_elim (λ y. ap test (eqb-true j r y) ∙ (sym e ∙ z)) (λ y. S.none j h (omega (arith, eqb-false j r y))) (decided (eqb j r));
      }

  pub first-here : {a m r : ℕ} {b : Bool} → Skipped test a m r → b ≡ test r → b ≡ true → First test a m r
  first-here S e z = record { skipped = S; passes = λ l. sym e ∙ z }

  pub first-end : {a m r : ℕ} → Skipped test a m r → m ≤ r → First test a m r
  first-end S h = record { skipped = S; passes = λ l. absurd (omega arith) }

  -- a search may pass over numbers whose element fails its test
  pub missed-skip : {a r : ℕ} → Missed test (λ j. j) a → ((j : ℕ) → a ≤ j → j < r → test j ≡ false) → Missed test (λ j. j) r
  missed-skip {a} {r} M h = record { none = λ j l. ⊎_elim (λ z. M.none j (ltb-true j a z)) (λ z. h j (ltb-false j a z) l) (decided (ltb j a)) }

-- a fold that leaves what is chosen at each number from a to r comes to the same
module _ (f : Choice → ℕ → Choice) (b : Choice) where
  over : (a k : ℕ) → ((j : ℕ) → a ≤ j → j < a + k → (c : Choice) → f c j ≡ c) → turned (a + k) f b ≡ turned a f b
  over a zero h = let z : a + 0 ≡ a = omega arith in ap (λ (n : ℕ). turned n f b) z
  over a (suc k) h =
      let z : a + suc k ≡ suc (a + k) = omega arith in
      ap (λ (n : ℕ). turned n f b) z ∙ (h (a + k) (omega arith) (omega arith) (turned (a + k) f b) ∙ over a k (λ j l m c. h j l (omega arith) c))

  pub folded-skip : {a r : ℕ} {c : Choice} → c ≡ folded a f b → a ≤ r → ((j : ℕ) → a ≤ j → j < r → (x : Choice) → f x j ≡ x) → c ≡ folded r f b
  unfolding folded
  folded-skip {a} {r} p l h =
      let z : a + (r - a) ≡ r = omega arith in p ∙ (sym (over a (r - a) (λ j u v x. h j u (omega (arith, z)) x)) ∙ ap (λ (n : ℕ). turned n f b) z)
