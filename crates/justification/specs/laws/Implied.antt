-- Edges of kind 1, child by child. Assumes nothing.
use Rattle.std.specs.Prelude.{ℕ, ◌<◌, ◌≡◌, Bool, true, not, ◌||◌, List, eqb, get_or, length}
use Rattle.expression.specs.declared.Credential.{Credential}
use Rattle.expression.specs.declared.Expression.{Expression}
use Rattle.rt0.specs.Decide.{from? as from_of}
use Rattle.rt0.specs.Lists.{all}
use Rattle.propagation.specs.laws.Flags.{flag}
use Rattle.graph.specs.declared.Edge.{Edge}

-- an edge of kind 1 from node c: its parent is from its child, the nodes having the expressions x
unfoldable pub implied_from : List Credential → (ℕ → Expression) → ℕ → Edge → Bool
implied_from C x c d = (not (eqb d.kind 1) || not (eqb d.child c)) || from_of C (x d.parent) (x c)

-- all edges from node c
unfoldable pub all_from : List Credential → (ℕ → Expression) → List Edge → ℕ → Bool
all_from C x es c = all (implied_from C x c) es

-- an edge of kind 1, whatever its child
unfoldable pub implied_by : List Credential → (ℕ → Expression) → Edge → Bool
implied_by C x d = not (eqb d.kind 1) || from_of C (x d.parent) (x d.child)

-- all edges
unfoldable pub all_implied : List Credential → (ℕ → Expression) → List Edge → Bool
all_implied C x es = all (implied_by C x) es

-- the column r has the children of the edges of kind 1 below j, edges of kinds K and children D
pub record Children (K D : List ℕ) (j : ℕ) (r : List ℕ) : Type 0 where
  pub size : length r ≡ 128
  pub marked : (i : ℕ) → i < j → get_or K i 0 ≡ 1 → flag r (get_or D i 0) ≡ true
