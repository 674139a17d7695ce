-- Columns that flag the credentials asked for, and those of them that are followed. Assumes nothing.
use Rattle.std.specs.Prelude.{ℕ, ◌<◌, ◌≡◌, Bool, true, false, List, eqb, length}
use Rattle.expression.specs.declared.Role.{Role}
use Rattle.rt0.specs.declared.Pool.{Pool}
use Rattle.rt0.specs.laws.Pool.{head_at, head_in, body_at}
use Rattle.closure.specs.laws.Rules.{el}
use Rattle.needed.specs.laws.Relevant.{asks}

-- the role has the name m
unfoldable pub is_named : ℕ → Role → Bool
is_named m h = eqb h.name m

-- the flag v is set where b is true, and where the flag was
pub record Raised (b : Bool) (was v : ℕ) : Type 0 where
  pub told : b ≡ true → v ≡ 1
  pub stays : was ≡ 1 → v ≡ 1

-- the column q has what r has, and of the first k credentials those whose heads pass the test
pub record Marked (H : List ℕ) (t : Role → Bool) (k : ℕ) (r q : List ℕ) : Type 0 where
  pub sized : length q ≡ 128
  pub grows : (i : ℕ) → el r i ≡ 1 → el q i ≡ 1
  pub all : (i : ℕ) → i < k → t (head_in H i) ≡ true → el q i ≡ 1

-- the column has what the body of credential j asks for
pub record Covers (P : Pool) (r : List ℕ) (j : ℕ) : Type 0 where
  pub covers : (i : ℕ) → i < P.count → asks (body_at P j) (head_at P i) ≡ true → el r i ≡ 1

-- what the bodies of those done ask for is in the column
pub record Work (P : Pool) (r done : List ℕ) : Type 0 where
  pub sized : length r ≡ 128
  pub done-sized : length done ≡ 128
  pub followed : (j : ℕ) → el done j ≡ 1 → Covers P r j

-- credential j is followed where b is true; else it need not be, and the columns are as they were
pub record Followed (P : Pool) (j : ℕ) (r done q ended : List ℕ) (b : Bool) : Type 0 where
  pub work : Work P q ended
  pub grows : (i : ℕ) → el r i ≡ 1 → el q i ≡ 1
  pub same : b ≡ false → (q ≡ r) × (ended ≡ done) × (el r j ≡ 1 → el done j ≡ 1)

-- the first k credentials are looked at; where none was followed, those of them in the column are done
pub record Swept (P : Pool) (r q ended : List ℕ) (b : Bool) (k : ℕ) : Type 0 where
  pub work : Work P q ended
  pub grows : (i : ℕ) → el r i ≡ 1 → el q i ≡ 1
  pub still : b ≡ false → (j : ℕ) → j < k → el q j ≡ 1 → el ended j ≡ 1
