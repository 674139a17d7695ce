-- Which nodes of a graph are satisfied. Assumes nothing.
use Rattle.std.specs.Prelude.{ℕ, ◌+◌, ◌*◌, Bool, ◌&&◌, List, eqb, ltb, get_or}
use Rattle.propagation.specs.laws.Flags.{all_to}
use Rattle.propagation.specs.Least.{Rule, least}
use Rattle.word.specs.laws.Search.{any_to}
use Rattle.propagation.specs.declared.Links.{Links}

-- Edge j leads from node from[j] into slot slot[j]. Node i has the slots i * 4 to i * 4 + 3, and node[i] says what it asks of them.
pub record Graph : Type 0 where
  pub from : List ℕ
  pub slot : List ℕ
  pub node : List ℕ

abbrev pub graph : List ℕ → List ℕ → List ℕ → Graph
graph f s n = record { from = f; slot = s; node = n }

-- links, and a number for each node
abbrev pub graph_of : Links → List ℕ → Graph
graph_of L n = graph L.from L.slot n

abbrev pub from_at : Graph → ℕ → ℕ
from_at G j = get_or G.from j 0

abbrev pub slot_at : Graph → ℕ → ℕ
slot_at G j = get_or G.slot j 0

abbrev pub node_at : Graph → ℕ → ℕ
node_at G i = get_or G.node i 0

-- one of the first m edges leads from a node of s into slot k
unfoldable pub filled_by : ℕ → Graph → (ℕ → Bool) → ℕ → Bool
filled_by m G s k = any_to m (λ j. eqb (slot_at G j) k && s (from_at G j))

-- a node needs its first node[i] slots filled; with 5 it is never satisfied
unfoldable pub satisfied_rule : ℕ → Graph → Rule
satisfied_rule m G s i = ltb (node_at G i) 5 && all_to (node_at G i) (λ k. filled_by m G s (i * 4 + k))

-- the nodes that the first m edges satisfy
unfoldable pub satisfied_of : ℕ → Graph → List Bool
satisfied_of m G = least (satisfied_rule m G) 128
