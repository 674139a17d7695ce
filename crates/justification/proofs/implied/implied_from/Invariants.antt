use Prim.Native.Nat.{ℕ}
use mathlib.Core.List.{List}
use Rattle.rules.specs.laws.Table.{chosen}
use Rattle.rt0.specs.laws.Pool.{expression_in}
use Rattle.relation.specs.laws.Relation.{Relation, Answers}
use Rattle.justification.specs.laws.ImpliedLaws.{From}
use Rattle.justification.proofs.implied.implied_from.Given as goal

abbrev pub invariant-loop-j : goal.invariant-loop-j
invariant-loop-j l = (on : List ℕ) → Relation l.shown on l.mem → Answers l.shown on l.e 0 l.vals
    → From (chosen l.shown on) (expression_in l.nodes.kind l.nodes.number) l.edges l.c l.j
