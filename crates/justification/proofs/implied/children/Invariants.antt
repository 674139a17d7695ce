use Rattle.justification.specs.laws.Implied.{Children}
use Rattle.justification.proofs.implied.children.Given as goal

abbrev pub invariant-loop-j : goal.invariant-loop-j
invariant-loop-j l = Children l.edges.kind l.edges.child l.j l.r
