-- Edges of a negotiation that is not damaged (document 01, "From the state", 20), but for their justification: "a node no edge brought (edges
-- first name nodes above 0 as children, in rising order)". Assumes nothing.
use Rattle.std.specs.Prelude.{ℕ, suc, Bool, not, cond, ◌&&◌, List, [], ◌∷◌, eqb, ltb, leb, length}
use Rattle.graph.specs.declared.Node.{Node}
use Rattle.graph.specs.declared.Edge.{Edge}
use Rattle.graph.specs.Graph.{node_in}
use Rattle.graph.specs.Form.{form}
use Rattle.graph.specs.Find.{has_edge}
use Rattle.justification.specs.InTurn.{in_turn}
use Rattle.negotiation.specs.declared.Header.{Header}
use Rattle.negotiation.specs.Ends.{entity_of}

-- how many nodes are brought once an edge is added to b of them: the next one, if the edge names it as child
abbrev pub next_brought : ℕ → Edge → ℕ
next_brought b e = cond (eqb e.child b) (suc b) b

unfoldable pub brought_from : ℕ → List Edge → ℕ
brought_from b [] = b
brought_from b (e ∷ es) = brought_from (next_brought b e) es

-- how many nodes stand once these edges are added: the primary, and those that they brought
unfoldable pub brought : List Edge → ℕ
brought es = brought_from 1 es

-- where b of n nodes are brought, the parent is one of them and the child is one or the next; "No edge joins a node to itself"
unfoldable pub placed : ℕ → ℕ → Edge → Bool
placed n b e = ltb e.parent b && leb e.child b && ltb e.child n && not (eqb e.parent e.child)

-- the form of section 4.2
unfoldable pub formed : Header → List Node → Edge → Bool
formed h ns e = form e.kind (entity_of h (node_in ns e.parent).verifier) (node_in ns e.parent) (node_in ns e.child)

-- an edge behind those before it: "Edges are unique"
unfoldable pub edge_fits : Header → List Node → List Edge → Edge → Bool
edge_fits h ns before e = placed (length ns) (brought before) e && formed h ns e && not (has_edge before e)

-- all edges fit, and they brought every node
unfoldable pub all_brought : Header → List Node → List Edge → Bool
all_brought h ns es = in_turn (edge_fits h ns) [] es && eqb (brought es) (length ns)
