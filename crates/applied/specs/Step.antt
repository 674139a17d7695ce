-- What a legal command does (document 01, "Bytes" and "RT0 and states"). Assumes nothing.
use Rattle.std.specs.Prelude.{ℕ, Bool, true, false, cond, ◌&&◌, List, length, eqb, ltb}
use Rattle.rt0.specs.Lists.{any}
use Rattle.message.specs.declared.Command.{Command}
use Rattle.message.specs.declared.Command.TheVariants.{End, Show, Open, Bring, Join, Mark}
use Rattle.negotiation.specs.State.{State, with_node, with_edge, with_shown, with_mark}
use Rattle.numbers.specs.Sizes.{MOST-NODES, MOST-EDGES, MOST-SHOWN}
use Rattle.expression.specs.declared.Expression.TheVariants as E
use Rattle.graph.specs.declared.Node.{Node}
use Rattle.graph.specs.declared.Edge.{Edge}
use Rattle.graph.specs.Graph.{node_in}
use Rattle.message.specs.declared.Opening.{Opening}
use Rattle.message.specs.declared.NewEdge.{NewEdge}
use Rattle.negotiation.specs.declared.Header.{Header}
use Rattle.negotiation.specs.Ends.{requester, other_side}
use Rattle.graph.specs.Processed.{marked_state}

-- "The primary's verifier is the mediator, its subject the requester"
unfoldable pub primary_of : Header → Opening → Node
primary_of h o = record { expression = E.Role o.role; subject = requester h; verifier = 0; state = o.state }

-- "A child's verifier and subject are those its form gives": of a control edge the other side, else the parent's
unfoldable pub verifier_of : ℕ → Node → ℕ
verifier_of k p = cond (eqb k 6) (other_side p.verifier) p.verifier

-- the new child of the parent p
unfoldable pub child_of : Node → NewEdge → Node
child_of p n = record { expression = n.expression; subject = n.subject; verifier = verifier_of n.kind p; state = n.state }

-- in a state
abbrev pub parent_in : State → NewEdge → Node
parent_in S n = node_in S.nodes n.parent

abbrev pub child_in : State → NewEdge → Node
child_in S n = child_of (parent_in S n) n

-- "Nodes are numbered in one byte from 0 as added"
abbrev pub edge_in : State → NewEdge → Edge
edge_in S n = record { kind = n.kind; parent = n.parent; child = length S.nodes }

-- "Each command carries the negotiation to its next state"; s is the sender's side
unfoldable pub stepped : State → ℕ → Command → State
stepped S s (Show c) = with_shown S c
stepped S s (Open o) = with_node S (primary_of S.header o)
stepped S s (Bring n) = with_edge (with_node S (child_in S n)) (edge_in S n)
stepped S s (Join e) = with_edge S e
stepped S s (Mark i) = with_mark S i (marked_state s (node_in S.nodes i))
stepped S s End = S

-- "open, edge or mark"
abbrev pub is_move : Command → Bool
is_move (Show c) = false
is_move (Open o) = true
is_move (Bring n) = true
is_move (Join e) = true
is_move (Mark i) = true
is_move End = false

-- the command passes no size, and its parent or the node that it marks stands
unfoldable pub has_room : State → Command → Bool
has_room S (Show c) = ltb (length S.shown) MOST-SHOWN
has_room S (Open o) = ltb (length S.nodes) MOST-NODES
has_room S (Bring n) = ltb n.parent (length S.nodes) && ltb (length S.nodes) MOST-NODES && ltb (length S.edges) MOST-EDGES
has_room S (Join e) = ltb (length S.edges) MOST-EDGES
has_room S (Mark i) = ltb i (length S.nodes)
has_room S End = true

-- an open, an edge or a mark is among them
abbrev pub moved : List Command → Bool
moved cs = any is_move cs
