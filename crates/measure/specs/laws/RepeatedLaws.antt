-- Counting the answers yes, and what a question asked several times answers. Assumes nothing.
use Rattle.std.specs.Prelude.{ℕ, ◌+◌, ◌*◌, ◌≤◌, ◌≡◌, refl, Bool, true, false}
use Rattle.std.proofs.Common.{sym, ap, ◌∙◌, subst, ⊎_elim, arith}
use Rattle.word.specs.laws.Bools.{false-true}
use Rattle.question.specs.Question.{yes_or_no}
use Rattle.question.specs.laws.Question.{Refused}
use Rattle.measure.specs.laws.Repeated.{count_of, repeated_of}

pub count-start : (b : Bool) → 0 ≡ count_of b 0
unfolding count_of
count-start true = refl
count-start false = refl

-- one more answer yes
pub count_yes : (b r : Bool) (y k : ℕ) → y ≡ count_of b k → r ≡ b → r ≡ true → y + 1 ≡ count_of b (k + 1)
unfolding count_of
count_yes true r y k h q t = ap (λ (n : ℕ). n + 1) h
count_yes false r y k h q t = absurd (false-true (sym q ∙ t))

-- one more answer no
pub count_no : (b r : Bool) (y k : ℕ) → y ≡ count_of b k → r ≡ b → r ≡ false → y ≡ count_of b (k + 1)
unfolding count_of
count_no true r y k h q t = absurd (false-true (sym t ∙ q))
count_no false r y k h q t = h

pub count_most : (b : Bool) (y k : ℕ) → y ≡ count_of b k → y ≤ k
unfolding count_of
count_most true y k h = omega arith
count_most false y k h = omega arith

-- a refusal
pub repeated-refused : (t n q : ℕ) → Refused n → n ≡ q → n ≡ repeated_of t q
unfolding repeated_of
repeated-refused t n q h e = subst (λ (m : ℕ). n ≡ repeated_of t m) e (⊎_elim (λ k. once 1 k refl) (λ r. ⊎_elim (λ k. once 2 k refl) (λ k. once 3 k refl) r) h)
  where
    once : (m : ℕ) → n ≡ m → m ≡ repeated_of t m → n ≡ repeated_of t n
    once m k own = subst (λ (x : ℕ). x ≡ repeated_of t x) (sym k) own

-- an answer
pub repeated-answer : (t r q : ℕ) (b : Bool) → r ≡ count_of b t → yes_or_no b * 256 ≡ q → r * 256 ≡ repeated_of t q
unfolding repeated_of count_of
repeated-answer t r q b h e = ap (λ (x : ℕ). x * 256) h ∙ by b ∙ ap (repeated_of t) e
  where
    by : (a : Bool) → count_of a t * 256 ≡ repeated_of t (yes_or_no a * 256)
    by true = refl
    by false = omega arith
