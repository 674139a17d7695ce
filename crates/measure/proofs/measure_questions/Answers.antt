use Rattle.std.proofs.Common.{sym, refl, ◌∙◌, inr}
use Rattle.question.specs.laws.Credentials.{listed-refused, list-refusal}
use Rattle.question.specs.laws.Question.{question-inside}
use Rattle.measure.specs.laws.RepeatedLaws.{repeated-refused}
use Rattle.measure.proofs.measure_questions.Goals as goal

pub returns-in-Err : goal.returns-in-Err
returns-in-Err c =
    let read = sym c.in-Err.ensures.listed ∙ listed-refused refl in
    repeated-refused _ _ _ (inr (list-refusal _ _ read)) (question-inside _ _ _ _ _ _ (sym c.sized.ensures ∙ c.if-not-sized.false) read refl refl)
