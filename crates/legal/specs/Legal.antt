-- Which commands are legal (document 01, "RT0 and states" and "From the state"), said with "f from e" and the least solution of propagation
-- themselves, not with a way of finding out. Assumes nothing.
use Rattle.std.specs.Prelude.{ℕ, ◌<◌, ◌≡◌, true, false, length}
use mathlib.Core.List.{List, Memᴰ}
use Rattle.numbers.specs.Sizes.{MOST-NODES, MOST-EDGES, MOST-SHOWN}
use Rattle.expression.specs.declared.Role.{Role}
use Rattle.expression.specs.declared.Expression.{Expression}
use Rattle.expression.specs.declared.Expression.TheVariants as E
use Rattle.rt0.specs.From.{From, role_of}
use Rattle.class.specs.declared.Name.{Name}
use Rattle.class.specs.Names.{class_of}
use Rattle.class.specs.Typing.{type_of, suits}
use Rattle.graph.specs.declared.Node.{Node}
use Rattle.graph.specs.Graph.{node_in}
use Rattle.graph.specs.States.{solution_kind, Child, Satisfied}
use Rattle.justification.specs.Justified.{monitor_kind}
use Rattle.message.specs.declared.Command.{Command}
use Rattle.message.specs.declared.Command.TheVariants.{Show, Open, Bring, Join, Mark, End}
use Rattle.negotiation.specs.State.{State}
use Rattle.damage.specs.Records.{is_typed}
use Rattle.graph.specs.Processed.{processed_by}
use Rattle.applied.specs.Step.{parent_in, child_in}
use Rattle.legal.specs.Number.{formed_as}
use Rattle.numbers.specs.Refusals.{CLASS, OPENING, ABSENT, PRESENT, UNJUSTIFIED, PROCESSED, FULL}

-- "has a linking-monitor child ⟨V : ?X.r2 ← S⟩, and ⟨V : ?X.r2 ← S⟩ has a link-solution child ⟨V : B.r2 ← S⟩ that is satisfied" (section 4.2);
-- x is A.r1.r2, the expression of the node p, and b is B
pub record Monitored (S : State) (x : Expression) (b p : ℕ) : Type 0 where
  pub goal : ℕ
  pub monitor : Child S.nodes S.edges monitor_kind p goal
  pub solution : ℕ
  pub solving : Child S.nodes S.edges solution_kind goal solution
  pub first : Role
  pub second : ℕ
  pub linked : x ≡ E.Linked first second
  pub role : (node_in S.nodes solution).expression ≡ E.Role (role_of b second)
  pub satisfied : Satisfied S.nodes S.edges solution

-- an edge of kind k into the node p, from a child of expression y and subject b: "Kind 1 is justified when parent from child holds over the
-- credentials shown; kind 4 as in section 4.2; the others always"
pub record Justifies (S : State) (k p : ℕ) (y : Expression) (b : ℕ) : Type 0 where
  pub implied : k ≡ 1 → From S.shown (node_in S.nodes p).expression y
  pub monitored : k ≡ 4 → Monitored S (node_in S.nodes p).expression b p

-- What the rules ask of a command, by the numbers of "From the input" and "From the state"

-- "5 a class rule broken"
unfoldable pub ClassesSuit : List Name → Command → Type 0
ClassesSuit ns (Show c) = suits (type_of ns c.body) (class_of ns c.head.name) ≡ true
ClassesSuit ns (Open o) = Unit {0}
ClassesSuit ns (Bring n) = is_typed (type_of ns n.expression) ≡ true
ClassesSuit ns (Join e) = Unit {0}
ClassesSuit ns (Mark i) = Unit {0}
ClassesSuit ns End = Unit {0}

-- "23 any command but open while no node stands, or open later"
unfoldable pub OpenFirst : State → Command → Type 0
OpenFirst S (Show c) = 0 < length S.nodes
OpenFirst S (Open o) = length S.nodes ≡ 0
OpenFirst S (Bring n) = 0 < length S.nodes
OpenFirst S (Join e) = 0 < length S.nodes
OpenFirst S (Mark i) = 0 < length S.nodes
OpenFirst S End = 0 < length S.nodes

-- "24 no such node"
unfoldable pub NodesStand : State → Command → Type 0
NodesStand S (Show c) = Unit {0}
NodesStand S (Open o) = Unit {0}
NodesStand S (Bring n) = n.parent < length S.nodes
NodesStand S (Join e) = (e.parent < length S.nodes) × (e.child < length S.nodes)
NodesStand S (Mark i) = i < length S.nodes
NodesStand S End = Unit {0}

-- "25 edge form wrong, or node, edge or credential already present"; "No edge joins a node to itself"
unfoldable pub FormedAndNew : State → Command → Type 0
FormedAndNew S (Show c) = Memᴰ c S.shown → ⊥
FormedAndNew S (Open o) = Unit {0}
FormedAndNew S (Bring n) =
    (formed_as S.header n.kind (parent_in S n) (child_in S n) ≡ true)
    × ((x : Node) → Memᴰ x S.nodes → x.expression ≡ n.expression → x.verifier ≡ (child_in S n).verifier → x.subject ≡ n.subject → ⊥)
FormedAndNew S (Join e) =
    (formed_as S.header e.kind (node_in S.nodes e.parent) (node_in S.nodes e.child) ≡ true)
    × (e.parent ≡ e.child → ⊥) × (Memᴰ e S.edges → ⊥)
FormedAndNew S (Mark i) = Unit {0}
FormedAndNew S End = Unit {0}

-- "26 not justified"
unfoldable pub EdgeJustified : State → Command → Type 0
EdgeJustified S (Show c) = Unit {0}
EdgeJustified S (Open o) = Unit {0}
EdgeJustified S (Bring n) = Justifies S n.kind n.parent n.expression n.subject
EdgeJustified S (Join e) =
    Justifies S e.kind e.parent (node_in S.nodes e.child).expression (node_in S.nodes e.child).subject
EdgeJustified S (Mark i) = Unit {0}
EdgeJustified S End = Unit {0}

-- "27 already processed by the sender"; "Only a side that has not processed the parent may add an edge into it"
unfoldable pub Unprocessed : ℕ → State → Command → Type 0
Unprocessed s S (Show c) = Unit {0}
Unprocessed s S (Open o) = Unit {0}
Unprocessed s S (Bring n) = processed_by s (parent_in S n) ≡ false
Unprocessed s S (Join e) = processed_by s (node_in S.nodes e.parent) ≡ false
Unprocessed s S (Mark i) = processed_by s (node_in S.nodes i) ≡ false
Unprocessed s S End = Unit {0}

-- "28 a size passed"
unfoldable pub RoomLeft : State → Command → Type 0
RoomLeft S (Show c) = length S.shown < MOST-SHOWN
RoomLeft S (Open o) = Unit {0}
RoomLeft S (Bring n) = (length S.nodes < MOST-NODES) × (length S.edges < MOST-EDGES)
RoomLeft S (Join e) = length S.edges < MOST-EDGES
RoomLeft S (Mark i) = Unit {0}
RoomLeft S End = Unit {0}

-- the command of side s is legal in the state S, the house having the names ns
pub record Legal (ns : List Name) (s : ℕ) (S : State) (c : Command) : Type 0 where
  pub classes : ClassesSuit ns c
  pub open-first : OpenFirst S c
  pub nodes : NodesStand S c
  pub form : FormedAndNew S c
  pub justified : EdgeJustified S c
  pub unprocessed : Unprocessed s S c
  pub room : RoomLeft S c

-- why it is not: "each by rising number", the first rule that it breaks
pub data Illegal (ns : List Name) (s : ℕ) (S : State) (c : Command) : ℕ → Type 0 where
  class-rule : (ClassesSuit ns c → ⊥) → Illegal ns s S c CLASS
  opening : ClassesSuit ns c → (OpenFirst S c → ⊥) → Illegal ns s S c OPENING
  no_node : ClassesSuit ns c → OpenFirst S c → (NodesStand S c → ⊥) → Illegal ns s S c ABSENT
  present : ClassesSuit ns c → OpenFirst S c → NodesStand S c → (FormedAndNew S c → ⊥) → Illegal ns s S c PRESENT
  unjustified : ClassesSuit ns c → OpenFirst S c → NodesStand S c → FormedAndNew S c → (EdgeJustified S c → ⊥)
      → Illegal ns s S c UNJUSTIFIED
  processed : ClassesSuit ns c → OpenFirst S c → NodesStand S c → FormedAndNew S c → EdgeJustified S c
      → (Unprocessed s S c → ⊥) → Illegal ns s S c PROCESSED
  full : ClassesSuit ns c → OpenFirst S c → NodesStand S c → FormedAndNew S c → EdgeJustified S c
      → Unprocessed s S c → (RoomLeft S c → ⊥) → Illegal ns s S c FULL
