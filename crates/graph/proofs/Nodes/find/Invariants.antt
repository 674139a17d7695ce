use Prim.Native.Nat.{ℕ}
use mathlib.Core.Path.{◌≡◌}
use mathlib.Core.List.{List}
use Rattle.expression.specs.declared.Expression.{Expression}
use Rattle.expression.specs.Form.{raw_of}
use Rattle.rt0.specs.laws.Find.{Missed}
use Rattle.graph.specs.laws.Graph.{nodes_from, node_at}
use Rattle.graph.specs.Find.{is_node}
use Rattle.graph.proofs.Nodes.find.Given as goal

abbrev pub invariant-loop-i : goal.invariant-loop-i
invariant-loop-i l = (x : Expression) → l.raw ≡ raw_of x → (state : List ℕ)
    → Missed (is_node x l.v l.s) (node_at (nodes_from l.n l.self.kind l.self.number l.self.subject l.self.verifier state)) l.i
