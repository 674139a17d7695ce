-- Propagated states, computed ("Propagation follows section 4.4, least solution"). Assumes nothing.
use Rattle.std.specs.Prelude.{ℕ, Bool, true, false, not, cond, ◌&&◌, ◌||◌, List, eqb, ltb, length}
use Rattle.expression.specs.declared.Role.{Role}
use Rattle.expression.specs.declared.Expression.{Expression}
use Rattle.expression.specs.declared.Expression.TheVariants as E
use Rattle.expression.specs.Same.{same}
use Rattle.rt0.specs.Lists.{any, all}
use Rattle.rt0.specs.From.{roles_of}
use Rattle.graph.specs.declared.Node.{Node}
use Rattle.graph.specs.declared.Edge.{Edge}
use Rattle.graph.specs.Graph.{node_in}
use Rattle.graph.specs.States.{implication_kind, solution_kind, intersection_kind}
use Rattle.propagation.specs.Flags.{at}
use Rattle.propagation.specs.Least.{Rule, least}

module _ (ns : List Node) (es : List Edge) where
  -- the edge brings node i a child, its kind passing the test
  abbrev pub is_child : (ℕ → Bool) → ℕ → Edge → Bool
  is_child t i e = t e.kind && eqb e.parent i && ltb e.child (length ns)

  -- one of the children is in s; all are
  abbrev pub any_child : (ℕ → Bool) → (ℕ → Bool) → ℕ → Bool
  any_child t s i = any (λ e. is_child t i e && s e.child) es

  abbrev pub all_children : (ℕ → Bool) → (ℕ → Bool) → ℕ → Bool
  all_children t s i = all (λ e. not (is_child t i e) || s e.child) es

  -- an intersection child for role a is in s
  abbrev pub any_part : (ℕ → Bool) → ℕ → Role → Bool
  any_part s i a = any (λ e. is_child intersection_kind i e && same (node_in ns e.child).expression (E.Role a) && s e.child) es

  -- whether node i, of expression x and in state p, is satisfied, where the nodes of s are
  abbrev pub satisfied_as : (ℕ → Bool) → ℕ → ℕ → Expression → Bool
  satisfied_as s i p (E.Entity a) = true
  satisfied_as s i p (E.Role a) = any_child implication_kind s i
  satisfied_as s i p (E.Linked a r) = any_child implication_kind s i
  satisfied_as s i p (E.Intersection q) = eqb p 3 && all (any_part s i) (roles_of q)
  satisfied_as s i p (E.Goal r) = false

  -- whether it is failed, where the nodes of s are
  abbrev pub failed_as : (ℕ → Bool) → ℕ → ℕ → Expression → Bool
  failed_as s i p (E.Entity a) = false
  failed_as s i p (E.Role a) = eqb p 3 && all_children implication_kind s i
  failed_as s i p (E.Linked a r) = eqb p 3 && all_children implication_kind s i
  failed_as s i p (E.Intersection q) = any_child intersection_kind s i
  failed_as s i p (E.Goal r) = false

  abbrev pub satisfied_rule : Rule
  satisfied_rule s i = satisfied_as s i (node_in ns i).state (node_in ns i).expression

  abbrev pub failed_rule : Rule
  failed_rule s i = failed_as s i (node_in ns i).state (node_in ns i).expression

  -- by node number
  unfoldable pub satisfied_b : List Bool
  satisfied_b = least satisfied_rule (length ns)

  unfoldable pub failed_b : List Bool
  failed_b = least failed_rule (length ns)

  abbrev pub complete_as : ℕ → ℕ → Expression → Bool
  complete_as i p (E.Entity a) = false
  complete_as i p (E.Role a) = false
  complete_as i p (E.Linked a r) = false
  complete_as i p (E.Intersection q) = false
  complete_as i p (E.Goal r) = eqb p 3 && all_children solution_kind (λ c. at satisfied_b c || at failed_b c) i

  unfoldable pub complete_b : ℕ → Bool
  complete_b i = complete_as i (node_in ns i).state (node_in ns i).expression

  -- "its propagated state, 0 unknown or incomplete, 1 satisfied or complete, 2 failed"
  unfoldable pub propagated_state : ℕ → ℕ
  propagated_state i = cond (at satisfied_b i || complete_b i) 1 (cond (at failed_b i) 2 0)
