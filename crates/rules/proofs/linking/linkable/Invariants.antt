use Rattle.rules.specs.laws.Columns.{Able}
use Rattle.rules.proofs.linking.linkable.Given as goal

abbrev pub invariant-loop-j : goal.invariant-loop-j
invariant-loop-j l = Able l.pool l.lit l.j l.src l.able
