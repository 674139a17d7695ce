use Rattle.applied.specs.laws.KeepsStates.{InsideTo}
use Rattle.applied.proofs.keeps.is_inside.Given as goal

abbrev pub invariant-loop-j : goal.invariant-loop-j
invariant-loop-j l = InsideTo l.nodes.count l.edges.parent l.j
