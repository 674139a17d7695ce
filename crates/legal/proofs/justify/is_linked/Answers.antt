use Rattle.legal.specs.laws.JudgedLaws.{bring-linked, justified-for}
use Rattle.legal.specs.laws.Judged.{is_linking}
use Rattle.word.specs.laws.Bools.{false-true}
use mathlib.Core.Path.{sym, ◌∙◌, ap}
use Rattle.legal.proofs.justify.is_linked.Goals as goal

pub is_join_linked-requires : goal.is_join_linked-requires
is_join_linked-requires c = (c.requires.0, c.requires.1, ap is_linking (sym c.in-Join.is) ∙ c.requires.2, c.requires.3)

pub returns-in-Show : goal.returns-in-Show
returns-in-Show c = absurd (false-true (ap is_linking (sym c.in-Show.is) ∙ c.requires.2))

pub returns-in-Open : goal.returns-in-Open
returns-in-Open c = absurd (false-true (ap is_linking (sym c.in-Open.is) ∙ c.requires.2))

pub returns-in-Bring : goal.returns-in-Bring
returns-in-Bring c =
    justified-for _ _ _ c.in-Bring.is
    (bring-linked _ _ (ap is_linking (sym c.in-Bring.is) ∙ c.requires.2) c.is_linked_for.ensures)

pub returns-in-Join : goal.returns-in-Join
returns-in-Join c = justified-for _ _ _ c.in-Join.is c.is_join_linked.ensures

pub returns-in-Mark : goal.returns-in-Mark
returns-in-Mark c = absurd (false-true (ap is_linking (sym c.in-Mark.is) ∙ c.requires.2))

pub returns-in-End : goal.returns-in-End
returns-in-End c = absurd (false-true (ap is_linking (sym c.in-End.is) ∙ c.requires.2))
