-- What the code keeps of our tables while it replies, and what it answers. Assumes nothing.
use Rattle.std.specs.Prelude.{ℕ, ◌≡◌, List, [], ◌∷◌, ◌++◌, map}
use Rattle.rt0.specs.declared.Pool.{Pool}
use Rattle.rules.specs.laws.Table.{chosen}
use Rattle.tables.specs.declared.House.{House}
use Rattle.tables.specs.laws.Tables.{tables_of}
use Rattle.tables.specs.Public.{public_of}
use Rattle.tables.specs.laws.Decoding.{Housed}
use Rattle.frontier.specs.laws.Frontier.{Stops}
use Rattle.graph.specs.Graph.{node_in}
use Rattle.message.specs.declared.Command.{Command}
use Rattle.message.specs.declared.Command.TheVariants.{Show}
use Rattle.moves.specs.declared.Preparation.{Preparation}
use Rattle.moves.specs.declared.Found.{Found}
use Rattle.moves.specs.declared.Outgoing.{Outgoing}
use Rattle.moves.specs.declared.Predicate.{Predicate}
use Rattle.moves.specs.declared.Predicate.TheVariants.{Oppo, Simp, Sens}
use Rattle.moves.specs.laws.Stops.{predicate_of}
use Rattle.moves.specs.Rules.{End}
use Rattle.moves.specs.Move.{Move, move_for}

-- the frontier of a predicate stops where the column says so
abbrev pub StopsFor : Predicate → House → Pool → List ℕ → Type 0
StopsFor p H P stop = Stops (predicate_of p (tables_of H).names (tables_of H).sensitive) P stop

-- the columns are those of the house
pub record Prepared (o : Preparation) : Type 0 where
  pub housed : Housed o.house
  -- 0x13 less direct credentials of sensitive roles
  pub visible : chosen o.house.subject o.visible ≡ (public_of (tables_of o.house)).subject_stored
  pub oppo : StopsFor Oppo o.house o.house.issuer o.oppo
  pub simp : StopsFor Simp o.house o.house.subject o.simp
  pub sens : StopsFor Sens o.house o.house.subject o.sens

-- the move that is found
unfoldable pub found_move : End → Found → Move
found_move o f = move_for o f.node (node_in o.state.nodes f.node) f.choice

-- the commands of a move as it is sent
unfoldable pub commands_of : Outgoing → List Command
commands_of r = map Show (chosen r.pool r.on) ++ (r.command ∷ [])
