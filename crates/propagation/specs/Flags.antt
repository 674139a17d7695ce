-- Flags as a list, one for each number. Assumes nothing.
use Rattle.std.specs.Prelude.{ℕ, zero, suc, Bool, false, List, [], ◌∷◌}

-- the answer at a number; false past the end
abbrev pub at : List Bool → ℕ → Bool
at [] i = false
at (b ∷ bs) zero = b
at (b ∷ bs) (suc i) = at bs i

-- f at i and at the k - 1 numbers after it
abbrev pub tab : (ℕ → Bool) → ℕ → ℕ → List Bool
tab f i zero = []
tab f i (suc k) = f i ∷ tab f (suc i) k
