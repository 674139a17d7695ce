-- The columns of a graph as lists of nodes and edges. Assumes nothing.
use Rattle.std.specs.Prelude.{ℕ, List, get_or}
use Rattle.rt0.specs.Pool.{up_to}
use Rattle.rt0.specs.laws.Pool.{expression_in}
use Rattle.graph.specs.declared.Node.{Node}
use Rattle.graph.specs.declared.Edge.{Edge}
use Rattle.graph.specs.declared.Nodes.{Nodes}
use Rattle.graph.specs.declared.Edges.{Edges}

-- lent columns
abbrev pub nodes_from : ℕ → List ℕ → List ℕ → List ℕ → List ℕ → List ℕ → Nodes
nodes_from n K N S W T = record { count = n; kind = K; number = N; subject = S; verifier = W; state = T }

abbrev pub edges_from : ℕ → List ℕ → List ℕ → List ℕ → Edges
edges_from m K P C = record { count = m; kind = K; parent = P; child = C }

abbrev pub node_at : Nodes → ℕ → Node
node_at N i =
    record {
      expression = expression_in N.kind N.number i;
      subject = get_or N.subject i 0;
      verifier = get_or N.verifier i 0;
      state = get_or N.state i 0;
    }

-- edge j of columns
abbrev pub edge_from : List ℕ → List ℕ → List ℕ → ℕ → Edge
edge_from K P C j = record { kind = get_or K j 0; parent = get_or P j 0; child = get_or C j 0 }

abbrev pub edge_at : Edges → ℕ → Edge
edge_at E j = edge_from E.kind E.parent E.child j

-- "Nodes are numbered in one byte from 0 as added"
unfoldable pub nodes_of : Nodes → List Node
nodes_of N = up_to N.count (node_at N)

unfoldable pub edges_of : Edges → List Edge
edges_of E = up_to E.count (edge_at E)

-- edge j
abbrev pub edge_in : List Edge → ℕ → Edge
edge_in es j = get_or es j (record { kind = 0; parent = 0; child = 0 })
