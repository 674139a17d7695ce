use Rattle.std.proofs.Common.{⊎_elim}
use Rattle.needed.specs.laws.Flag.{marked-entity, marked-goal, marked-role}
use Rattle.needed.proofs.asked.flag_asked.Goals as goal

pub returns-in-Role : goal.returns-in-Role
returns-in-Role c = marked-role c.in-Role.is c.flag_role.ensures

pub returns-in-Entity : goal.returns-in-Entity
returns-in-Entity c = ⊎_elim (λ e. marked-entity c.told-flags e.1) (λ e. marked-goal c.told-flags e.1) c.in-Entity.is
