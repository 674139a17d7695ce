use Rattle.std.proofs.Common.{refl, ap}
use Rattle.std.proofs.lemmas.Result.{err_from_is_err_and}
use Rattle.std.specs.Prelude.{Ok}
use Rattle.tables.specs.laws.NamesReading.{reading-start, names-room, names-next, names-other, names-stop}
use Rattle.tables.proofs.names.read_names.Goals as goal

pub loop-at-init : goal.loop-at-init
loop-at-init c = reading-start _ _ _ _ c.requires

pub push_name-requires : goal.push_name-requires
push_name-requires c = names-room c.loop-at.invariant c.loop-at-test.true c.in_ok-n.ensures _ (ap Ok c.in-Some.is)

pub loop-at-preserved : goal.loop-at-preserved
loop-at-preserved c = names-next c.loop-at.invariant c.loop-at-test.true c.in_ok-n.ensures _ (ap Ok c.in-Some.is) c.push_name.ensures

pub returns-in_default : goal.returns-in_default
returns-in_default c = names-other c.loop-at.invariant c.loop-at-test.true c.in_ok-n.ensures (ap Ok c.in_default.is)

pub returns-in_err-n : goal.returns-in_err-n
returns-in_err-n c =
    let p = err_from_is_err_and c.from_residual.result c.from_residual.ensures.1 in
    rw (p.1, p.2) (names-stop c.loop-at.invariant c.loop-at-test.true c.in_err-n.ensures _ refl)
