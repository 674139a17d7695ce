use Rattle.damage.specs.laws.Edges.{Bringing}
use Rattle.damage.proofs.edges.edges_fit.Given as goal

abbrev pub invariant-loop-j : goal.invariant-loop-j
invariant-loop-j l = Bringing l.h l.nodes l.edges l.b l.j
