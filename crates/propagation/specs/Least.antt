-- The least solution of a monotone rule over the numbers below n. Assumes nothing.
use Rattle.std.specs.Prelude.{ℕ, zero, suc, Bool, List, []}
use Rattle.propagation.specs.Flags.{at, tab}

-- which numbers a set brings
abbrev pub Rule : Type 0
Rule = (ℕ → Bool) → ℕ → Bool

-- what k rounds bring, beginning with nothing
unfoldable pub rounds : Rule → ℕ → ℕ → List Bool
rounds F n zero = []
rounds F n (suc k) = tab (F (at (rounds F n k))) 0 n

-- the least solution: after n rounds nothing is added
unfoldable pub least : Rule → ℕ → List Bool
least F n = rounds F n n
