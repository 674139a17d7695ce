-- What a call answers (document 01, "From the state"): a refusal number, or a value. Assumes nothing.
use Rattle.std.specs.Prelude.{ℕ, zero, suc, ◌*◌, List}

pub data Answer (A : Type 0) : Type 0 where
  refused : ℕ → Answer A
  accepted : A → Answer A

-- refused with a number that is not zero, else gone on with
abbrev pub judged : {A : Type 0} → ℕ → Answer A → Answer A
judged zero next = next
judged (suc k) next = refused (suc k)

-- what is accepted is gone on with
abbrev pub onward : {A B : Type 0} → (A → Answer B) → Answer A → Answer B
onward next (refused k) = refused k
onward next (accepted x) = next x

-- "Each returns its number alone", and an accepted call 256 times its value
abbrev pub answer_of : {A : Type 0} → (A → ℕ) → Answer A → ℕ
answer_of value (refused k) = k
answer_of value (accepted x) = value x * 256

-- "check tables, begin, take a message (these return 0)"
abbrev pub no_value : {A : Type 0} → A → ℕ
no_value x = 0

-- a lent buffer after the call: "no buffer changes" where it is refused
abbrev pub buffer_after : {A : Type 0} → (A → List ℕ) → List ℕ → Answer A → List ℕ
buffer_after bytes before (refused k) = before
buffer_after bytes before (accepted x) = bytes x
