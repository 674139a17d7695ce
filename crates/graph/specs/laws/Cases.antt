-- Small graphs and their propagated states, edges and their forms, computed. Assumes nothing.
use Rattle.std.specs.Prelude.{ℕ, ◌≡◌, refl, Bool, true, false, List, [], ◌∷◌, map, length}
use Rattle.expression.specs.declared.Expression.{Expression}
use Rattle.expression.specs.declared.Expression.TheVariants as E
use Rattle.expression.specs.Same.{same}
use Rattle.rt0.specs.From.{role_of}
use Rattle.rt0.specs.Pool.{up_to}
use Rattle.graph.specs.declared.Node.{Node}
use Rattle.graph.specs.declared.Edge.{Edge}
use Rattle.graph.specs.Form.{has_role, form}
use Rattle.propagation.specs.Least.{rounds, least}
use Rattle.graph.specs.Propagated.{satisfied_b, failed_b, complete_b, propagated_state}

record Case : Type 0 where
  nodes : List Node
  edges : List Edge

-- a node of the mediator's, of subject 7
abbrev node : Expression → ℕ → Node
node x s = record { expression = x; subject = 7; verifier = 0; state = s }

-- kind, parent, child
abbrev edge : ℕ → ℕ → ℕ → Edge
edge k p c = record { kind = k; parent = p; child = c }

abbrev case : List Node → List Edge → Case
case ns es = record { nodes = ns; edges = es }

abbrev states : Case → List ℕ
states k = up_to (length k.nodes) (propagated_state k.nodes k.edges)

abbrev role : ℕ → ℕ → Expression
role a r = E.Role (role_of a r)

-- 2.2 and 3.3
abbrev both : Expression
both = E.Intersection (record { count = 2; first = role_of 2 2; second = role_of 3 3; third = role_of 0 0; fourth = role_of 0 0 })

-- an intersection in state s with its first part, or with both, each from the trivial target; its second part without a child
abbrev parts : ℕ → List Node
parts s = node both s ∷ node (role 2 2) 0 ∷ node (role 3 3) 3 ∷ node (E.Entity 7) 3 ∷ []

abbrev table : List Case
table =
    -- a fully processed role without a child, and one that is not
    case (node (role 1 1) 3 ∷ node (role 2 2) 1 ∷ []) []
    -- one that comes from the trivial target
    ∷ case (node (role 1 1) 0 ∷ node (E.Entity 7) 3 ∷ []) (edge 1 0 1 ∷ [])
    -- a cycle of implications
    ∷ case (node (role 1 1) 3 ∷ node (role 2 2) 3 ∷ []) (edge 1 0 1 ∷ edge 1 1 0 ∷ [])
    -- an intersection without edges
    ∷ case (node both 3 ∷ []) []
    -- with one part of two; with both, and not fully processed; with both; with a failed part
    ∷ case (parts 3) (edge 5 0 1 ∷ edge 1 1 3 ∷ [])
    ∷ case (parts 1) (edge 5 0 1 ∷ edge 5 0 2 ∷ edge 1 1 3 ∷ edge 1 2 3 ∷ [])
    ∷ case (parts 3) (edge 5 0 1 ∷ edge 5 0 2 ∷ edge 1 1 3 ∷ edge 1 2 3 ∷ [])
    ∷ case (parts 1) (edge 5 0 1 ∷ edge 5 0 2 ∷ edge 1 1 3 ∷ [])
    -- a linked role, its goal, a solution, and the linking implication
    ∷ case (node (E.Linked (role_of 1 1) 2) 3 ∷ node (E.Goal 2) 3 ∷ node (role 4 2) 3 ∷ []) (edge 2 0 1 ∷ edge 3 1 2 ∷ [])
    ∷ case (node (E.Linked (role_of 1 1) 2) 3 ∷ node (E.Goal 2) 1 ∷ node (role 1 1) 0 ∷ node (E.Entity 7) 3 ∷ []) (edge 2 0 1 ∷ edge 4 0 2 ∷ edge 1 2 3 ∷ [])
    -- a control edge brings no child
    ∷ case (node (role 1 1) 3 ∷ node (role 2 2) 0 ∷ node (E.Entity 7) 3 ∷ []) (edge 6 0 1 ∷ edge 1 1 2 ∷ [])
    ∷ []

pub state-cases : map states table
    ≡ (2 ∷ 0 ∷ [])
    ∷ (1 ∷ 1 ∷ [])
    ∷ (0 ∷ 0 ∷ [])
    ∷ (0 ∷ [])
    ∷ (0 ∷ 1 ∷ 2 ∷ 1 ∷ [])
    ∷ (0 ∷ 1 ∷ 1 ∷ 1 ∷ [])
    ∷ (1 ∷ 1 ∷ 1 ∷ 1 ∷ [])
    ∷ (2 ∷ 1 ∷ 2 ∷ 1 ∷ [])
    ∷ (2 ∷ 1 ∷ 2 ∷ [])
    ∷ (1 ∷ 0 ∷ 1 ∷ 1 ∷ [])
    ∷ (2 ∷ 1 ∷ 1 ∷ [])
    ∷ []
unfolding propagated_state complete_b satisfied_b failed_b least rounds same
state-cases = refl

-- kind, parent, child
record Join : Type 0 where
  kind : ℕ
  parent : Node
  child : Node

abbrev join : ℕ → Node → Node → Join
join k p c = record { kind = k; parent = p; child = c }

-- a node of verifier v and subject s
abbrev node_of : Expression → ℕ → ℕ → Node
node_of x v s = record { expression = x; subject = s; verifier = v; state = 0 }

-- the mediator is 3
abbrev formed : Join → Bool
formed j = form j.kind 3 j.parent j.child

abbrev linked : Expression
linked = E.Linked (role_of 1 1) 2

abbrev joins : List Join
joins =
    join 1 (node (role 1 1) 0) (node (E.Entity 7) 3)
    ∷ join 1 (node (role 1 1) 0) (node (E.Entity 8) 3)
    ∷ join 1 (node (role 1 1) 0) (node (E.Goal 2) 1)
    ∷ join 1 (node both 1) (node (role 2 2) 0)
    ∷ join 2 (node linked 0) (node (E.Goal 2) 1)
    ∷ join 2 (node linked 0) (node (E.Goal 1) 1)
    ∷ join 3 (node (E.Goal 2) 1) (node (role 4 2) 0)
    ∷ join 3 (node (E.Goal 2) 1) (node (role 4 1) 0)
    ∷ join 4 (node linked 0) (node_of (role 1 1) 0 8)
    ∷ join 4 (node linked 0) (node_of (role 1 1) 1 8)
    ∷ join 5 (node both 1) (node (role 3 3) 0)
    ∷ join 5 (node both 1) (node (role 4 3) 0)
    ∷ join 5 (node both 1) (node (role 0 0) 0)
    ∷ join 6 (node (role 1 1) 0) (node_of (role 2 2) 1 3)
    ∷ join 6 (node (role 1 1) 0) (node_of (role 2 2) 0 3)
    ∷ join 6 (node (role 1 1) 0) (node_of (role 2 2) 1 7)
    ∷ join 7 (node (role 1 1) 0) (node_of (role 2 2) 1 3)
    ∷ []

pub form-cases : map formed joins
    ≡ true ∷ false ∷ false ∷ false ∷ true ∷ false ∷ true ∷ false ∷ true ∷ false ∷ true ∷ false ∷ false ∷ true ∷ false ∷ false ∷ false ∷ []
unfolding form has_role same
form-cases = refl
