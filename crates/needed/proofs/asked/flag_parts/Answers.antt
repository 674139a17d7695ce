use Rattle.needed.specs.laws.Flag.{marked-two, marked-three, marked-four}
use Rattle.needed.proofs.asked.flag_parts.Goals as goal

pub returns-then-p-eq2 : goal.returns-then-p-eq2
returns-then-p-eq2 c = marked-two _ c.flag_role.ensures c.flag_role-2.ensures c.if-p-eq2.true

pub returns-then-p-eq3 : goal.returns-then-p-eq3
returns-then-p-eq3 c = marked-three _ c.flag_role.ensures c.flag_role-2.ensures c.if-p-eq2.false c.flag_role-3.ensures c.if-p-eq3.true

pub returns : goal.returns
returns c =
    marked-four _ c.flag_role.ensures c.flag_role-2.ensures c.if-p-eq2.false c.flag_role-3.ensures c.if-p-eq3.false
    c.flag_role-4.ensures
