-- Nodes by what they are, and edges (sections 4.1 and 4.2: "Nodes are unique", "Edges are unique"). Assumes nothing.
use Rattle.std.specs.Prelude.{ℕ, Bool, ◌&&◌, List, eqb, length}
use Rattle.expression.specs.declared.Expression.{Expression}
use Rattle.expression.specs.Same.{same}
use Rattle.rt0.specs.Lists.{any, first_or}
use Rattle.rt0.specs.Pool.{up_to}
use Rattle.graph.specs.declared.Node.{Node}
use Rattle.graph.specs.declared.Edge.{Edge}
use Rattle.graph.specs.Graph.{node_in}
use Rattle.numbers.specs.Sizes.{MOST-NODES}

-- a node of expression x, verifier v and subject s
abbrev pub is_node : Expression → ℕ → ℕ → Node → Bool
is_node x v s n = eqb n.verifier v && eqb n.subject s && same n.expression x

-- the least number of such a node; 128, which is no node's number, where there is none
unfoldable pub find_node : List Node → Expression → ℕ → ℕ → ℕ
find_node ns x v s = first_or (λ i. is_node x v s (node_in ns i)) (λ i. i) MOST-NODES (up_to (length ns) (λ i. i))

-- edges are the same by kind, parent and child
abbrev pub same_edge : Edge → Edge → Bool
same_edge e d = eqb e.kind d.kind && eqb e.parent d.parent && eqb e.child d.child

unfoldable pub has_edge : List Edge → Edge → Bool
has_edge es d = any (λ e. same_edge e d) es
