use Rattle.std.proofs.Common.{sym, ◌∙◌}
use Rattle.std.proofs.lemmas.Result.{err_from_is_err_and}
use Rattle.question.specs.laws.Credentials.{filled-list, refused-list}
use Rattle.question.proofs.credentials.list.Goals as goal

pub returns-in_err-fill-clause-listed : goal.returns-in_err-fill-clause-listed
returns-in_err-fill-clause-listed c =
    let p = err_from_is_err_and c.from_residual.result c.from_residual.ensures.1 in
    rw (p.1, p.2) (sym (refused-list _ _) ∙ c.in_err-fill.ensures.listed)

pub returns-clause-listed : goal.returns-clause-listed
returns-clause-listed c = sym (filled-list _ _) ∙ c.in_ok-fill.ensures.listed
