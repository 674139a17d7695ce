use Rattle.std.proofs.Common.{sym, ap, ◌∙◌, Ok, arith}
use Rattle.std.proofs.lemmas.Result.{err_from_is_err_and}
use Rattle.question.specs.laws.Credentials.{reading-start, reading-few, reading-next, list-end, list-refused, list-past, filled-list, refused-list}
use Rattle.question.proofs.credentials.fill.Goals as goal

pub loop-at-init : goal.loop-at-init
loop-at-init c = reading-start _ _ c.requires.1

pub push-requires : goal.push-requires
push-requires c = omega (arith, reading-few c.loop-at.invariant c.requires.0)

pub loop-at-preserved : goal.loop-at-preserved
loop-at-preserved c = reading-next c.loop-at.invariant c.loop-at-test.true (sym c.in_ok-c.ensures ∙ ap Ok c.in-Taken.is) c.push.ensures.added

pub returns-in_err-c-clause-listed : goal.returns-in_err-c-clause-listed
returns-in_err-c-clause-listed c =
    let p = err_from_is_err_and c.from_residual.result c.from_residual.ensures.1 in
    rw (p.1, p.2) (refused-list _ _ ∙ list-refused c.loop-at.invariant c.loop-at-test.true (sym c.in_err-c.ensures))

pub returns-in-End-clause-listed : goal.returns-in-End-clause-listed
returns-in-End-clause-listed c =
    filled-list _ _ ∙ list-end c.loop-at.invariant c.loop-at-test.true (sym c.in_ok-c.ensures ∙ ap Ok c.in-End.is)

pub returns-clause-listed : goal.returns-clause-listed
returns-clause-listed c = refused-list _ _ ∙ list-past c.loop-at.invariant c.loop-at-test.false
