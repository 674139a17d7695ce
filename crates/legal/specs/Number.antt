-- Which commands are legal (document 01, "From the input" and "From the state"): zero, or the refusal number; each command by rising number.
-- Assumes nothing.
use Rattle.std.specs.Prelude.{ℕ, Bool, true, not, cond, ◌&&◌, ◌||◌, List, eqb, leb, length}
use Rattle.numbers.specs.Sizes.{MOST-NODES, MOST-EDGES, MOST-SHOWN}
use Rattle.expression.specs.declared.Credential.{Credential}
use Rattle.expression.specs.declared.Expression.{Expression}
use Rattle.rt0.specs.Lists.{any}
use Rattle.rt0.specs.Decide.{from? as from_of}
use Rattle.class.specs.declared.Name.{Name}
use Rattle.class.specs.declared.Typing.{Typing}
use Rattle.class.specs.declared.Typing.TheVariants.{Ill, Any, Class}
use Rattle.class.specs.Typing.{type_of, credential_number}
use Rattle.graph.specs.declared.Node.{Node}
use Rattle.graph.specs.declared.Edge.{Edge}
use Rattle.graph.specs.Graph.{node_in}
use Rattle.graph.specs.Form.{form}
use Rattle.graph.specs.Find.{is_node, has_edge}
use Rattle.justification.specs.Justified.{monitors, justified}
use Rattle.message.specs.declared.NewEdge.{NewEdge}
use Rattle.message.specs.declared.Command.{Command}
use Rattle.message.specs.declared.Command.TheVariants.{Show, Open, Bring, Join, Mark, End}
use Rattle.negotiation.specs.declared.Header.{Header}
use Rattle.negotiation.specs.State.{State}
use Rattle.negotiation.specs.Ends.{entity_of}
use Rattle.rt0.specs.Shown.{is_shown}
use Rattle.graph.specs.Processed.{processed_by}
use Rattle.applied.specs.Step.{parent_in, child_in}
use Rattle.numbers.specs.Refusals.{CLASS, OPENING, ABSENT, PRESENT, UNJUSTIFIED, PROCESSED, FULL}

-- refused with k where b holds, else judged further
unfoldable pub refuse : Bool → ℕ → ℕ → ℕ
refuse b k rest = cond b k rest

-- a number that is judged, then the rest
unfoldable pub first : ℕ → ℕ → ℕ
first k rest = cond (eqb k 0) rest k

-- "23 any command but open while no node stands"
unfoldable pub is_fresh : State → Bool
is_fresh S = eqb (length S.nodes) 0

-- "24 no such node"
unfoldable pub is_absent : State → ℕ → Bool
is_absent S i = leb (length S.nodes) i

-- an edge of kind k from c to p has its form
unfoldable pub formed_as : Header → ℕ → Node → Node → Bool
formed_as h k p c = form k (entity_of h p.verifier) p c

-- 0x01: a repeat is 25 where the credentials are full, too
unfoldable pub show_number : List Name → State → Credential → ℕ
show_number ns S c =
    first (credential_number ns c)
    (refuse (is_fresh S) OPENING
    (refuse (is_shown S.shown c) PRESENT
    (refuse (leb MOST-SHOWN (length S.shown)) FULL
    0)))

-- 0x02
unfoldable pub open_number : State → ℕ
open_number S = refuse (not (is_fresh S)) OPENING 0

-- 0x05
unfoldable pub mark_number : ℕ → State → ℕ → ℕ
mark_number s S i =
    refuse (is_fresh S) OPENING
    (refuse (is_absent S i) ABSENT
    (refuse (processed_by s (node_in S.nodes i)) PROCESSED
    0))

-- 0x06
unfoldable pub end_number : State → ℕ
end_number S = refuse (is_fresh S) OPENING 0

-- 0x04: "edge form wrong", the node itself, or "already present"
unfoldable pub join_wrong : State → Edge → Bool
join_wrong S e =
    not (formed_as S.header e.kind (node_in S.nodes e.parent) (node_in S.nodes e.child))
    || (eqb e.parent e.child || has_edge S.edges e)

-- "Kind 1 is justified when parent from child holds over the credentials shown; kind 4 as in section 4.2; the others always"
unfoldable pub justified_by : ℕ → Bool → Bool → Bool
justified_by k implied monitored = (not (eqb k 1) || implied) && (not (eqb k 4) || monitored)

-- an edge of kind k into the node p, from a child of expression x and subject b: its justification looks at what stands before the command
unfoldable pub justified_for : State → ℕ → ℕ → Expression → ℕ → Bool
justified_for S k p x b =
    justified_by k
    (from_of S.shown (node_in S.nodes p).expression x)
    (any (monitors S.nodes S.edges (node_in S.nodes p).expression b p) S.edges)

-- the last is whether the edge is justified
unfoldable pub join_number : ℕ → State → Edge → Bool → ℕ
join_number s S e justifies =
    refuse (is_fresh S) OPENING
    (refuse (is_absent S e.parent || is_absent S e.child) ABSENT
    (refuse (join_wrong S e) PRESENT
    (refuse (not justifies) UNJUSTIFIED
    (refuse (processed_by s (node_in S.nodes e.parent)) PROCESSED
    (refuse (leb MOST-EDGES (length S.edges)) FULL
    0)))))

-- "5 a class rule broken"
abbrev pub type_number : Typing → ℕ
type_number Ill = CLASS
type_number Any = 0
type_number (Class a) = 0

-- 0x03: "edge form wrong, or node .. already present"
unfoldable pub bring_wrong : State → NewEdge → Bool
bring_wrong S n =
    not (formed_as S.header n.kind (parent_in S n) (child_in S n))
    || any (is_node n.expression (child_in S n).verifier n.subject) S.nodes

unfoldable pub bring_number : List Name → ℕ → State → NewEdge → Bool → ℕ
bring_number ns s S n justifies =
    first (type_number (type_of ns n.expression))
    (refuse (is_fresh S) OPENING
    (refuse (is_absent S n.parent) ABSENT
    (refuse (bring_wrong S n) PRESENT
    (refuse (not justifies) UNJUSTIFIED
    (refuse (processed_by s (node_in S.nodes n.parent)) PROCESSED
    (refuse (leb MOST-NODES (length S.nodes) || leb MOST-EDGES (length S.edges)) FULL
    0))))))

-- whether the edge that a command adds is justified
unfoldable pub justified_in : State → Command → Bool
justified_in S (Show c) = true
justified_in S (Open o) = true
justified_in S (Bring n) = justified_for S n.kind n.parent n.expression n.subject
justified_in S (Join e) = justified S.shown S.nodes S.edges e
justified_in S (Mark i) = true
justified_in S End = true

-- a command of side s, and whether its edge is justified
unfoldable pub legal_by : List Name → ℕ → State → Command → Bool → ℕ
legal_by ns s S (Show c) justifies = show_number ns S c
legal_by ns s S (Open o) justifies = open_number S
legal_by ns s S (Bring n) justifies = bring_number ns s S n justifies
legal_by ns s S (Join e) justifies = join_number s S e justifies
legal_by ns s S (Mark i) justifies = mark_number s S i
legal_by ns s S End justifies = end_number S

unfoldable pub legal_number : List Name → ℕ → State → Command → ℕ
legal_number ns s S c = legal_by ns s S c (justified_in S c)
