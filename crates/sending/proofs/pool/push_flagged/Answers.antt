use Rattle.sending.specs.laws.Relevant.{flag-not}
use Rattle.sending.proofs.pool.push_flagged.Goals as goal

pub returns-else-flag-eq1 : goal.returns-else-flag-eq1
returns-else-flag-eq1 c = flag-not c.if-flag-eq1.false
