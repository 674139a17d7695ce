-- When an edge is justified (section 4.2; document 01, "RT0 and states"). Assumes nothing.
use Rattle.std.specs.Prelude.{ℕ, Bool, false, not, ◌&&◌, ◌||◌, List, eqb}
use Rattle.expression.specs.declared.Credential.{Credential}
use Rattle.expression.specs.declared.Expression.{Expression}
use Rattle.expression.specs.declared.Expression.TheVariants as E
use Rattle.expression.specs.Same.{same}
use Rattle.rt0.specs.From.{role_of}
use Rattle.rt0.specs.Decide.{from? as from_of}
use Rattle.rt0.specs.Lists.{any}
use Rattle.graph.specs.declared.Node.{Node}
use Rattle.graph.specs.declared.Edge.{Edge}
use Rattle.graph.specs.Graph.{node_in}
use Rattle.graph.specs.States.{solution_kind}
use Rattle.graph.specs.Propagated.{is_child, satisfied_b}
use Rattle.propagation.specs.Flags.{at}

abbrev pub monitor_kind : ℕ → Bool
monitor_kind k = eqb k 2

-- B.r2, for A.r1.r2 and B
abbrev pub is_solution_for : Expression → ℕ → Expression → Bool
is_solution_for (E.Entity a) b x = false
is_solution_for (E.Role a) b x = false
is_solution_for (E.Linked a r) b x = same x (E.Role (role_of b r))
is_solution_for (E.Intersection p) b x = false
is_solution_for (E.Goal r) b x = false

module _ (ns : List Node) (es : List Edge) where
  -- the edge d brings the goal g "a link-solution child ⟨V : B.r2 ← S⟩ that is satisfied", for x and B
  unfoldable pub solves : Expression → ℕ → ℕ → Edge → Bool
  solves x b g d = is_child ns es solution_kind g d && is_solution_for x b (node_in ns d.child).expression && at (satisfied_b ns es) d.child

  -- the goal g has such a child
  unfoldable pub solved : Expression → ℕ → ℕ → Bool
  solved x b g = any (solves x b g) es

  -- the edge d brings the node p a "linking-monitor child ⟨V : ?X.r2 ← S⟩" that has such a child
  unfoldable pub monitors : Expression → ℕ → ℕ → Edge → Bool
  monitors x b p d = is_child ns es monitor_kind p d && solved x b d.child

  -- the parent has such a linking-monitor child; B is the subject of the child A.r1
  unfoldable pub monitored : Edge → Bool
  monitored e = any (monitors (node_in ns e.parent).expression (node_in ns e.child).subject e.parent) es

-- "parent from child holds over the credentials shown"
unfoldable pub implied : List Credential → List Node → Edge → Bool
implied shown ns e = from_of shown (node_in ns e.parent).expression (node_in ns e.child).expression

-- "Kind 1 is justified when parent from child holds over the credentials shown"; of another kind it does not speak
unfoldable pub implied_if : List Credential → List Node → Edge → Bool
implied_if shown ns e = not (eqb e.kind 1) || implied shown ns e

-- "kind 4 as in section 4.2"; of another kind it does not speak
unfoldable pub monitored_if : List Node → List Edge → Edge → Bool
monitored_if ns es e = not (eqb e.kind 4) || monitored ns es e

-- an edge behind those of es is justified; the kinds but 1 and 4 always
unfoldable pub justified : List Credential → List Node → List Edge → Edge → Bool
justified shown ns es e = implied_if shown ns e && monitored_if ns es e
