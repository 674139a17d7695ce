-- What a call leaves of its scratch (document 01, "From the state": "After acceptance, take changes the negotiation, reply also its message
-- bytes, both set the scratch to zero"). Assumes nothing.
use Rattle.std.specs.Prelude.{ℕ, List, length}
use Rattle.numbers.specs.Answer.{Answer, buffer_after}
use Rattle.negotiation.specs.Layout.{zeros}

abbrev pub scratch_left : {A : Type 0} → List ℕ → Answer A → List ℕ
scratch_left before a = buffer_after (λ x. zeros (length before)) before a
