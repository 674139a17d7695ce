use Rattle.std.proofs.Common.{refl, ap}
use Rattle.std.proofs.lemmas.Result.{err_from_is_err_and}
use Rattle.std.specs.Prelude.{Ok}
use Rattle.tables.specs.laws.PairsReading.{pairs-room, pairs_next, pairs-other, pairs-stop}
use Rattle.tables.proofs.House.read_pairs.Goals as goal

pub push-requires : goal.push-requires
push-requires c = pairs-room _ c.args.access c.loop-at.pairs c.loop-at.invariant c.loop-at-test.true c.in_ok-x.ensures _ (ap Ok c.in-Some.is)

pub loop-at-preserved : goal.loop-at-preserved
loop-at-preserved c = pairs_next _ c.args.access c.loop-at.pairs c.loop-at.invariant c.loop-at-test.true c.in_ok-x.ensures _ (ap Ok c.in-Some.is) c.push.ensures

pub returns-in_default : goal.returns-in_default
returns-in_default c = pairs-other _ c.args.access c.loop-at.pairs c.loop-at.invariant c.loop-at-test.true c.in_ok-x.ensures (ap Ok c.in_default.is)

pub returns-in_err-x : goal.returns-in_err-x
returns-in_err-x c =
    let p = err_from_is_err_and c.from_residual.result c.from_residual.ensures.1 in
    rw (p.1, p.2) (pairs-stop _ c.args.access c.loop-at.pairs c.loop-at.invariant c.loop-at-test.true c.in_err-x.ensures _ refl)
