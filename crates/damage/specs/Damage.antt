-- When a negotiation is damaged (document 01, "From the state", 20), clause by clause. Assumes nothing.
use Rattle.std.specs.Prelude.{ℕ, Bool, cond, ◌&&◌, List, [], eqb, length}
use Rattle.std.proofs.Math.Option.{Option, none, some}
use Rattle.graph.specs.Graph.{node_in}
use Rattle.graph.specs.Propagated.{propagated_state}
use Rattle.justification.specs.InTurn.{in_turn}
use Rattle.justification.specs.Justified.{justified}
use Rattle.class.specs.declared.Name.{Name}
use Rattle.tables.specs.Tables.{Tables}
use Rattle.negotiation.specs.State.{State}
use Rattle.negotiation.specs.Layout.{read_state}
use Rattle.damage.specs.Header.{header_sound, counts_agree, empty_sound, count_sound, end_sound}
use Rattle.damage.specs.Records.{node_fits, primary_sound, credential_fits}
use Rattle.damage.specs.Edges.{all_brought}

-- nodes, primary and credentials
unfoldable pub records_sound : List Name → State → Bool
records_sound ns S = in_turn (node_fits ns) [] S.nodes && primary_sound S.header (node_in S.nodes 0) && in_turn (credential_fits ns) [] S.shown

-- every edge is justified "by the credentials and earlier edges (marks as held)"
unfoldable pub edges_justified : State → Bool
edges_justified S = in_turn (justified S.shown S.nodes) [] S.edges

-- where a node stands
unfoldable pub graph_sound : List Name → State → Bool
graph_sound ns S =
    count_sound S.header.messages
    && records_sound ns S
    && all_brought S.header S.nodes S.edges
    && edges_justified S
    && end_sound (propagated_state S.nodes S.edges 0) S.header.end S.header.idle

-- a negotiation that is not damaged
unfoldable pub sound : Tables → State → Bool
sound T S =
    header_sound T.own S.header
    && counts_agree S.header.messages
    && cond (eqb (length S.nodes) 0) (empty_sound S.header (length S.edges) (length S.shown)) (graph_sound T.names S)

-- the negotiation whose bytes these are, where it is not damaged
abbrev pub if_sound : Tables → Option State → Option State
if_sound T none = none
if_sound T (some S) = cond (sound T S) (some S) none

unfoldable pub read_sound : Tables → List ℕ → Option State
read_sound T s = if_sound T (read_state s)
