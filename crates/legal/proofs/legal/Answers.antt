use Rattle.negotiation.specs.laws.Within.{within-few}
use Rattle.legal.specs.Number.{legal_by}
use Rattle.legal.specs.laws.Number.{legal-for}
use Rattle.legal.proofs.legal.Goals as goal

pub show_number-requires : goal.show_number-requires
show_number-requires c = (c.requires.0, c.requires.1, (within-few _ c.requires.2).2)

pub bring_number-requires : goal.bring_number-requires
bring_number-requires c = (c.requires.0, c.requires.1, (within-few _ c.requires.2).0, (within-few _ c.requires.2).1)

pub join_number-requires : goal.join_number-requires
join_number-requires c = ((within-few _ c.requires.2).0, (within-few _ c.requires.2).1)

pub mark_number-requires : goal.mark_number-requires
mark_number-requires c = (within-few _ c.requires.2).0

pub returns-in-Show : goal.returns-in-Show
unfolding legal_by
returns-in-Show c = legal-for _ _ _ _ _ _ c.in-Show.is c.show_number.ensures

pub returns-in-Open : goal.returns-in-Open
unfolding legal_by
returns-in-Open c = legal-for _ _ _ _ _ _ c.in-Open.is c.open_number.ensures

pub returns-in-Bring : goal.returns-in-Bring
unfolding legal_by
returns-in-Bring c = legal-for _ _ _ _ _ _ c.in-Bring.is c.bring_number.ensures

pub returns-in-Join : goal.returns-in-Join
unfolding legal_by
returns-in-Join c = legal-for _ _ _ _ _ _ c.in-Join.is c.join_number.ensures

pub returns-in-Mark : goal.returns-in-Mark
unfolding legal_by
returns-in-Mark c = legal-for _ _ _ _ _ _ c.in-Mark.is c.mark_number.ensures

pub returns-in-End : goal.returns-in-End
unfolding legal_by
returns-in-End c = legal-for _ _ _ _ _ _ c.in-End.is c.end_number.ensures
