use Rattle.std.proofs.lemmas.Result.{err_from_is_err_and}
use Rattle.take.specs.laws.Commands.{taken_of}
use Rattle.take.proofs.commands.take_commands.Goals as goal

pub returns-in_err-moved-clause-taken : goal.returns-in_err-moved-clause-taken
unfolding taken_of
returns-in_err-moved-clause-taken c =
    let p = err_from_is_err_and c.from_residual.result c.from_residual.ensures.1 in
    rw (p.1, p.2) c.in_err-moved.ensures.taken
