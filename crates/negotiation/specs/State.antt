-- The state of one end of a negotiation, and how commands carry it to the next. Assumes nothing.
use Rattle.std.specs.Prelude.{ℕ, List, [], ◌∷◌, ◌++◌, Bool, ◌&&◌, leb, length, set}
use Rattle.expression.specs.declared.Role.{Role}
use Rattle.expression.specs.declared.Credential.{Credential}
use Rattle.graph.specs.declared.Node.{Node}
use Rattle.graph.specs.declared.Edge.{Edge}
use Rattle.graph.specs.Graph.{node_in, in_state}
use Rattle.negotiation.specs.declared.Header.{Header}
use Rattle.numbers.specs.Sizes.{MOST-NODES, MOST-EDGES, MOST-SHOWN}

pub record State : Type 0 where
  pub header : Header
  pub nodes : List Node
  pub edges : List Edge
  pub shown : List Credential

-- "A fresh negotiation holds no node, no edge and no credential"
unfoldable pub fresh_state : ℕ → ℕ → ℕ → Role → State
fresh_state side own other wanted =
    record {
      header = record { side = side; own = own; other = other; wanted = wanted; end = 0; idle = 0; messages = record { mediator = 0; requester = 0 } };
      nodes = [];
      edges = [];
      shown = [];
    }

-- "Nodes are numbered in one byte from 0 as added"
unfoldable pub with_node : State → Node → State
with_node S x = record { header = S.header; nodes = S.nodes ++ (x ∷ []); edges = S.edges; shown = S.shown }

unfoldable pub with_edge : State → Edge → State
with_edge S e = record { header = S.header; nodes = S.nodes; edges = S.edges ++ (e ∷ []); shown = S.shown }

unfoldable pub with_shown : State → Credential → State
with_shown S c = record { header = S.header; nodes = S.nodes; edges = S.edges; shown = S.shown ++ (c ∷ []) }

-- node i in state s
unfoldable pub with_mark : State → ℕ → ℕ → State
with_mark S i s = record { header = S.header; nodes = set S.nodes i (in_state s (node_in S.nodes i)); edges = S.edges; shown = S.shown }

unfoldable pub with_header : State → Header → State
with_header S h = record { header = h; nodes = S.nodes; edges = S.edges; shown = S.shown }

-- "A graph has at most 128 nodes and 256 edges, and a negotiation at most 64 credentials shown so far"
unfoldable pub within : State → Bool
within S = leb (length S.nodes) MOST-NODES && leb (length S.edges) MOST-EDGES && leb (length S.shown) MOST-SHOWN
