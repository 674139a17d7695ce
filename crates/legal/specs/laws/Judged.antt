-- The justification of a command, found before the command is judged: what it looks at. Assumes nothing.
use Rattle.std.specs.Prelude.{ℕ, ◌≡◌, Bool, true, false, List, eqb}
use Rattle.expression.specs.declared.Expression.TheVariants as E
use Rattle.rt0.specs.declared.Pool.{Pool}
use Rattle.rt0.specs.laws.Pool.{credentials}
use Rattle.rt0.specs.Decide.{from? as from_of}
use Rattle.closure.specs.declared.Rules.{Rules}
use Rattle.graph.specs.declared.Node.{Node}
use Rattle.graph.specs.declared.Edge.{Edge}
use Rattle.graph.specs.Graph.{node_in}
use Rattle.justification.specs.laws.Justified.{Says}
use Rattle.message.specs.declared.Command.{Command}
use Rattle.message.specs.declared.Command.TheVariants.{Show, Open, Bring, Join, Mark, End}
use Rattle.negotiation.specs.State.{State}
use Rattle.legal.specs.declared.Implication.{Implication}
use Rattle.legal.specs.laws.Proved.{ProvedBy}

-- "1 implication"
abbrev pub is_implication : Command → Bool
is_implication (Show c) = false
is_implication (Open o) = false
is_implication (Bring n) = eqb n.kind 1
is_implication (Join e) = eqb e.kind 1
is_implication (Mark i) = false
is_implication End = false

-- "4 linking implication"
abbrev pub is_linking : Command → Bool
is_linking (Show c) = false
is_linking (Open o) = false
is_linking (Bring n) = eqb n.kind 4
is_linking (Join e) = eqb e.kind 4
is_linking (Mark i) = false
is_linking End = false

-- no edge
abbrev pub no_implication : Implication
no_implication = record { parent = E.Goal 0; child = E.Goal 0 }

-- "parent from child"
abbrev pub implication_in : List Node → Command → Implication
implication_in ns (Show c) = no_implication
implication_in ns (Open o) = no_implication
implication_in ns (Bring n) = record { parent = (node_in ns n.parent).expression; child = n.expression }
implication_in ns (Join e) = record { parent = (node_in ns e.parent).expression; child = (node_in ns e.child).expression }
implication_in ns (Mark i) = no_implication
implication_in ns End = no_implication

-- what a pool proves is known, where a command adds an implication edge
pub record ProvedFor (c : Command) (P : Pool) (R : Rules) (rows : List ℕ) (pool : Pool) : Type 0 where
  pub knows : is_implication c ≡ true → ProvedBy P R rows
  pub same : is_implication c ≡ true → credentials P ≡ credentials pool

-- the answer says whether the credentials shown prove the edge of a command, where it is an implication
pub record Proves (S : State) (c : Command) (r : Bool) : Type 0 where
  pub proves : is_implication c ≡ true → r ≡ from_of S.shown (implication_in S.nodes c).parent (implication_in S.nodes c).child

-- the column says which nodes are satisfied, where a command adds a linking implication edge
pub record SaysFor (c : Command) (ns : List Node) (es : List Edge) (sat : List ℕ) : Type 0 where
  pub says : is_linking c ≡ true → Says ns es sat
