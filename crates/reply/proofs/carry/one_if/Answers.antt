use native.Mathlib.Omega.{arith}
use Rattle.reply.specs.laws.Outgoing.{one_on, one-off}
use Rattle.reply.proofs.carry.one_if.Goals as goal

pub returns-then-flag-eq1 : goal.returns-then-flag-eq1
returns-then-flag-eq1 c = record { counted = one_on _ c.if-flag-eq1.true; few = omega arith }

pub returns-else-flag-eq1 : goal.returns-else-flag-eq1
returns-else-flag-eq1 c = record { counted = one-off _ c.if-flag-eq1.false; few = omega arith }
