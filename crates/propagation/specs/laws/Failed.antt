-- Which nodes of a graph have failed. Assumes nothing.
use Rattle.std.specs.Prelude.{ℕ, ◌+◌, ◌/◌, ◌≤◌, ◌<◌, ◌≡◌, Bool, true, false, not, ◌&&◌, ◌||◌, List, eqb, ltb, get_or, length}
use Rattle.propagation.specs.laws.Flags.{cnt, flag}
use Rattle.propagation.specs.Flags.{at}
use Rattle.propagation.specs.Least.{Rule, least}
use Rattle.propagation.specs.laws.Satisfied.{Graph, from_at, slot_at, node_at}
use Rattle.word.specs.laws.Search.{any_to}

-- edge j brings node i a child, and passes the test
abbrev pub brings : Graph → (ℕ → Bool) → ℕ → ℕ → Bool
brings G t i j = eqb (slot_at G j / 4) i && (ltb (from_at G j) 128 && t j)

-- one of the first m edges brings node i a child of s
unfoldable pub child_of : ℕ → Graph → (ℕ → Bool) → ℕ → Bool
child_of m G s i = any_to m (brings G (λ j. s (from_at G j)) i)

-- way 1 fails where no child is alive, way 2 where a child has failed
unfoldable pub fails_by : ℕ → Bool → Bool → Bool
fails_by way alive hit = (eqb way 1 && not alive) || (eqb way 2 && hit)

-- node[i] is the way in which a node fails
unfoldable pub failed_rule : ℕ → Graph → Rule
failed_rule m G s i = fails_by (node_at G i) (child_of m G (λ f. not (s f)) i) (child_of m G s i)

-- the nodes that have failed over the first m edges
unfoldable pub failed_of : ℕ → Graph → List Bool
failed_of m G = least (failed_rule m G) 128

-- What the code keeps

-- the column is as wide as the nodes, and each of its nodes has failed
pub record Sound (m : ℕ) (G : Graph) (failed : List ℕ) : Type 0 where
  pub size : length failed ≡ 128
  pub sound : (i : ℕ) → flag failed i ≡ true → at (failed_of m G) i ≡ true

abbrev pub same_b : Bool → Bool → Bool
same_b true b = b
same_b false b = not b

-- the nodes to which an edge brings a child that is in the column, or that is not
pub record Touched (m : ℕ) (G : Graph) (failed : List ℕ) (on : Bool) (r : List ℕ) : Type 0 where
  pub size : length r ≡ 128
  pub touched : (i : ℕ) → flag r i ≡ child_of m G (λ f. same_b on (flag failed f)) i

-- the nodes below k were looked at
pub record Swept (way alive hit failed : List ℕ) (k : ℕ) (r : List ℕ) (added : ℕ) : Type 0 where
  pub size : length r ≡ 128
  pub within : k ≤ 128
  pub sound : (i : ℕ) → flag r i ≡ true → flag failed i ≡ false → (i < 128) × (fails_by (get_or way i 0) (flag alive i) (flag hit i) ≡ true)
  pub seen : (i : ℕ) → i < k → fails_by (get_or way i 0) (flag alive i) (flag hit i) ≡ true → flag r i ≡ true
  pub counted : cnt 128 (flag r) ≡ cnt 128 (flag failed) + added
  pub same : added ≡ 0 → (i : ℕ) → flag r i ≡ flag failed i
