use Rattle.closure.specs.laws.Laws.{add-word}
use Rattle.closure.proofs.linked_rules.add_word.Goals as goal

pub returns : goal.returns
returns c = λ w l. add-word w _ _ _ _ c.requires.2 l c.requires.1 c.told-rows
