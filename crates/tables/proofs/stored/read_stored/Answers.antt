use Rattle.std.proofs.Common.{refl, ap}
use Rattle.std.proofs.lemmas.Result.{err_from_is_err_and}
use Rattle.std.specs.Prelude.{Ok}
use native.Mathlib.Omega.{arith}
use Rattle.tables.specs.laws.StoredReading.{stored-room, stored_next, stored-other, stored-stop}
use Rattle.tables.proofs.stored.read_stored.Goals as goal

pub push-requires : goal.push-requires
push-requires c = omega (arith, stored-room _ c.args.subject c.loop-at.pool c.loop-at.invariant c.loop-at-test.true c.in_ok-c.ensures _ (ap Ok c.in-Some.is))

pub loop-at-preserved : goal.loop-at-preserved
loop-at-preserved c =
    stored_next _ c.args.subject c.loop-at.pool c.loop-at.invariant c.loop-at-test.true c.in_ok-c.ensures _ (ap Ok c.in-Some.is)
    c.push.new.self c.push.ensures.added

pub returns-in_default : goal.returns-in_default
returns-in_default c =
    stored-other _ c.args.subject c.loop-at.pool c.loop-at.invariant c.loop-at-test.true c.in_ok-c.ensures (ap Ok c.in_default.is)

pub returns-in_err-c : goal.returns-in_err-c
returns-in_err-c c =
    let p = err_from_is_err_and c.from_residual.result c.from_residual.ensures.1 in
    rw (p.1, p.2) (stored-stop _ c.args.subject c.loop-at.pool c.loop-at.invariant c.loop-at-test.true c.in_err-c.ensures _ refl)
