-- A graph that has grown by a node, an edge or a mark. Assumes nothing.
use Rattle.std.specs.Prelude.{ℕ, ◌≤◌, ◌<◌, ◌≡◌, Bool, true, ◌||◌, eqb, length}
use mathlib.Core.List.{List, ◌++◌, Memᴰ}
use Rattle.graph.specs.declared.Node.{Node}
use Rattle.graph.specs.declared.Edge.{Edge}
use Rattle.graph.specs.Graph.{node_in, in_state}
use Rattle.graph.specs.States.{FullyProcessed}

-- Growth

-- state t has the bits of state s, both being 0 to 3
abbrev pub gains : ℕ → ℕ → Bool
gains s t = eqb s 0 || eqb t 3 || eqb s t

-- A legal step: nodes and edges are added at the end, of an older node only the state changes, and by gaining bits, and no edge goes into a
-- node that is fully processed. Edges join nodes.
pub record Grown (ns : List Node) (es : List Edge) (ns' : List Node) (es' : List Edge) : Type 0 where
  pub more : length ns ≤ length ns'
  pub same : (i : ℕ) → i < length ns → node_in ns' i ≡ in_state (node_in ns' i).state (node_in ns i)
  pub gained : (i : ℕ) → i < length ns → gains (node_in ns i).state (node_in ns' i).state ≡ true
  pub added : List Edge
  pub edges : es' ≡ es ++ added
  pub unprocessed : (e : Edge) → Memᴰ e added → FullyProcessed ns e.parent → ⊥
  pub joined : (e : Edge) → Memᴰ e es → e.child < length ns

-- edges join nodes
abbrev pub Joined : List Node → List Edge → Type 0
Joined ns es = (e : Edge) → Memᴰ e es → e.child < length ns
