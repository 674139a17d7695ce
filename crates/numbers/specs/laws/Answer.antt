-- Answers taken apart. Assumes nothing.
use Rattle.std.specs.Prelude.{ℕ, Bool, true, false}
use Rattle.numbers.specs.Answer.{Answer, refused, accepted}

abbrev pub is_accepted : {A : Type 0} → Answer A → Bool
is_accepted (refused k) = false
is_accepted (accepted x) = true

abbrev pub is_refused : {A : Type 0} → Answer A → Bool
is_refused (refused k) = true
is_refused (accepted x) = false

-- the number of a refusal, else zero
abbrev pub number_of : {A : Type 0} → Answer A → ℕ
number_of (refused k) = k
number_of (accepted x) = 0

-- the value, or another where there is none
abbrev pub value_or : {A : Type 0} → A → Answer A → A
value_or d (refused k) = d
value_or d (accepted x) = x

abbrev pub first_of : {A B : Type 0} → A → Answer (A × B) → A
first_of d (refused k) = d
first_of d (accepted (x, y)) = x

abbrev pub second_of : {A B : Type 0} → B → Answer (A × B) → B
second_of d (refused k) = d
second_of d (accepted (x, y)) = y
