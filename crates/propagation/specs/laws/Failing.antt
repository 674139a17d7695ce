-- What the queue of failed nodes keeps: it says only what has failed, not that nothing is missing. Assumes nothing.
use Rattle.std.specs.Prelude.{ℕ, ◌≤◌, ◌<◌, ◌≡◌, true, not, List, get_or, length}
use Rattle.propagation.specs.declared.failing.Failures.{Failures}
use Rattle.propagation.specs.laws.Flags.{flag, cnt}
use Rattle.propagation.specs.Flags.{at}
use Rattle.propagation.specs.laws.Satisfied.{Graph, from_at, slot_at}
use Rattle.propagation.specs.laws.Failed.{brings, failed_of}

-- the first m edges were counted, each at the node to which it brings a child
pub record Tallied (m : ℕ) (G : Graph) (left : List ℕ) : Type 0 where
  pub size : length left ≡ 128
  pub counted : (p : ℕ) → p < 128 → get_or left p 0 ≡ cnt m (brings G (λ j. true) p)

-- gone edges start at failed nodes, and left[p] is how many of the edges that bring p a child are not gone
pub record Failing (m : ℕ) (G : Graph) (failed left gone : List ℕ) : Type 0 where
  pub few : m ≤ 256
  pub slots : (j : ℕ) → slot_at G j < 512
  pub failed-size : length failed ≡ 128
  pub left-size : length left ≡ 128
  pub gone-size : length gone ≡ 256
  pub sound : (i : ℕ) → flag failed i ≡ true → at (failed_of m G) i ≡ true
  pub gone-sound : (j : ℕ) → flag gone j ≡ true → at (failed_of m G) (from_at G j) ≡ true
  pub counted : (p : ℕ) → p < 128 → get_or left p 0 ≡ cnt m (brings G (λ j. not (flag gone j)) p)

-- the same of the columns that the code holds together
abbrev pub Keeps : ℕ → Graph → Failures → Type 0
Keeps m G F = Failing m G F.failed F.left F.gone
