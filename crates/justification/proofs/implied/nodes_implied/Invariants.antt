use Rattle.rules.specs.laws.Table.{chosen}
use Rattle.rt0.specs.laws.Pool.{expression_in}
use Rattle.justification.specs.laws.ImpliedLaws.{Below}
use Rattle.justification.proofs.implied.nodes_implied.Given as goal

abbrev pub invariant-loop-c : goal.invariant-loop-c
invariant-loop-c l = Below (chosen l.shown l.on) (expression_in l.nodes.kind l.nodes.number) l.edges l.nodes.count l.c
