use Rattle.std.proofs.Common.{sym, ◌∙◌}
use Rattle.std.proofs.lemmas.Result.{err_from_is_err_and}
use Rattle.standing.specs.laws.Standing.{found-standing, refused-standing}
use Rattle.standing.proofs.restore.Goals as goal

pub returns-in_err-find-clause-found : goal.returns-in_err-find-clause-found
returns-in_err-find-clause-found c =
    let p = err_from_is_err_and c.from_residual.result c.from_residual.ensures.1 in
    rw (p.1, p.2) (sym (refused-standing _ _) ∙ c.in_err-find.ensures.found)

pub returns-clause-found : goal.returns-clause-found
returns-clause-found c = sym (found-standing _ _) ∙ c.in_ok-find.ensures.found
