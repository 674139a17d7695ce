use Rattle.choice.specs.laws.Waits.{SameSolutions}
use Rattle.choice.proofs.waiting.is_settled.Given as goal

abbrev pub invariant-loop-k : goal.invariant-loop-k
invariant-loop-k l = SameSolutions l.edges.kind l.edges.child l.failed l.earlier l.k
