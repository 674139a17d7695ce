-- Nodes and edges of a graph by their numbers. Assumes nothing.
use Rattle.std.specs.Prelude.{ℕ, List, get_or}
use Rattle.expression.specs.declared.Expression.TheVariants as E
use Rattle.graph.specs.declared.Node.{Node}

-- stands past the end: a goal that nobody has processed, so it is neither satisfied nor failed nor complete
abbrev pub blank : Node
blank = record { expression = E.Goal 0; subject = 0; verifier = 0; state = 0 }

-- node i
abbrev pub node_in : List Node → ℕ → Node
node_in ns i = get_or ns i blank

-- a node in another state
abbrev pub in_state : ℕ → Node → Node
in_state s n = record { expression = n.expression; subject = n.subject; verifier = n.verifier; state = s }
