-- Columns that say which credentials of a pool are on, and which are kept. Assumes nothing.
use Rattle.std.specs.Prelude.{ℕ, ◌+◌, ◌≤◌, ◌<◌, ◌≡◌, ◌⊎◌, Bool, true, false, List, ◌++◌, length}
use Rattle.expression.specs.declared.Expression.{Expression}
use Rattle.rt0.specs.declared.Pool.{Pool}
use Rattle.rt0.specs.Decide.{from?}
use Rattle.rt0.specs.laws.Pool.{credentials}
use Rattle.closure.specs.laws.Rules.{el}
use Rattle.rules.specs.laws.Table.{chosen}
use Rattle.needed.specs.Needed.{kept, enough, needed}
use Rattle.needed.specs.laws.Needed.{first_of, rest_of}

-- the first s are on, and no others
pub record FirstOn (s : ℕ) (on : List ℕ) : Type 0 where
  pub sized : length on ≡ 128
  pub shown : (i : ℕ) → i < s → el on i ≡ 1
  pub others : (i : ℕ) → s ≤ i → el on i ≡ 0

-- beside what was on, the credentials from k to n are
pub record Grown (n k : ℕ) (was on : List ℕ) : Type 0 where
  pub sized : length on ≡ 128
  pub says : (i : ℕ) → i < n → el on i ≡ 1 → (el was i ≡ 1) ⊎ (k ≤ i)
  pub old : (i : ℕ) → el was i ≡ 1 → el on i ≡ 1
  pub new : (i : ℕ) → k ≤ i → i < n → el on i ≡ 1

-- f from e holds with those that are on and the credentials from k on
abbrev pub holds_from : Pool → List ℕ → Expression → Expression → ℕ → Bool
holds_from P on f e k = from? (chosen P on ++ rest_of P k) f e

-- k is the last number from a on such that the credentials from k on, beside those that are on, are enough: the count where none is needed,
-- more where all from a on are not enough
pub record LastNeeded (P : Pool) (on : List ℕ) (f e : Expression) (a k : ℕ) : Type 0 where
  pub found : k ≤ P.count → (a ≤ k) × (from? (chosen P on ++ rest_of P k) f e ≡ true)
  pub last : k < P.count → from? (chosen P on ++ rest_of P (k + 1)) f e ≡ false
  pub none : P.count < k → from? (chosen P on ++ rest_of P a) f e ≡ false

-- the column r with those from a to n
pub record WithRest (n a : ℕ) (r q : List ℕ) : Type 0 where
  pub sized : length q ≡ 128
  pub before : (i : ℕ) → i < a → el q i ≡ el r i
  pub rest : (i : ℕ) → a ≤ i → i < n → el q i ≡ 1
  pub after : (i : ℕ) → n ≤ i → el q i ≡ el r i

-- the own credentials before a are tried, those in the column r are kept, and these and the first s are on
pub record Keeping (P : Pool) (s : ℕ) (f e : Expression) (r on : List ℕ) (a : ℕ) : Type 0 where
  pub from : s ≤ a
  pub within : a ≤ P.count
  pub sized : length r ≡ 128
  pub on-sized : length on ≡ 128
  pub own : (i : ℕ) → el r i ≡ 1 → (s ≤ i) × (i < a)
  pub says : (i : ℕ) → el on i ≡ 1 → (i < s) ⊎ (el r i ≡ 1)
  pub shown : (i : ℕ) → i < s → el on i ≡ 1
  pub kept_on : (i : ℕ) → el r i ≡ 1 → el on i ≡ 1
  pub so_far : needed (first_of P s) f e (rest_of P s) ≡ kept (enough (first_of P s) f e) (chosen P r) (rest_of P a)

-- b says whether the edge holds over the whole pool, and the credentials in the column r are the needed ones, the first s being shown
pub record Needed (P : Pool) (s : ℕ) (f e : Expression) (b : Bool) (r : List ℕ) : Type 0 where
  pub holds : b ≡ from? (credentials P) f e
  pub own : (i : ℕ) → el r i ≡ 1 → (s ≤ i) × (i < P.count)
  pub all : chosen P r ≡ needed (first_of P s) f e (rest_of P s)
