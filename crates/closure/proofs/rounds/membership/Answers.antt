use mathlib.Core.Path.{refl}
use Rattle.closure.specs.laws.Rules.{mem_rows}
use Rattle.closure.proofs.rounds.membership.Goals as goal

pub returns-then-own : goal.returns-then-own
unfolding mem_rows
returns-then-own c = rw c.if-own.true refl

pub returns-else-own : goal.returns-else-own
unfolding mem_rows
returns-else-own c = rw c.if-own.false refl
