use mathlib.Core.Path.{refl, ap, sym, ◌∙◌}
use Rattle.std.specs.Prelude.{Ok, Err}
use mathlib.Core.Bool.{not}
use native.Mathlib.Omega.{arith}
use Rattle.standing.specs.laws.Standing.{found-standing, refused-standing, restored-own, restored-length}
use Rattle.take.specs.laws.Take.{take-size, size-parts, take-unrestored, take-refused, take-accepted}
use Rattle.take.proofs.call.take.Goals as goal

pub returns-then-not-fits : goal.returns-then-not-fits
returns-then-not-fits c =
    let t = take-size c.args.tables.now c.args.negotiation.now c.args.message.now c.args.scratch.now c.fits.ensures (ap not c.if-not-fits.true) in
    record { answered = t.0; left = t.1.0; cleared = t.1.1 }

pub returns-in-Err : goal.returns-in-Err
returns-in-Err c =
    let t = take-unrestored c.args.tables.now c.args.negotiation.now c.args.message.now c.args.scratch.now c.fits.ensures
    (ap not c.if-not-fits.false) (Err _) (sym (refused-standing _ _) ∙ c.in-Err.ensures.found) refl in
    record { answered = t.0; left = t.1.0; cleared = t.1.1 }

pub take_in-requires : goal.take_in-requires
take_in-requires c = (
  c.in_default.ensures.kept.housed,
  restored-own _ _ c.find.new.self (sym (found-standing _ _) ∙ c.in_default.ensures.found),
  c.in_default.ensures.kept.within-sizes,
  c.in_default.ensures.kept.is-sound,
)

pub write_zeros-requires : goal.write_zeros-requires
write_zeros-requires c = (
  omega arith,
  omega (
    arith,
    (size-parts c.args.tables.now c.args.negotiation.now c.args.message.now c.args.scratch.now
        c.fits.ensures (ap not c.if-not-fits.false)).2,
  ),
)

pub returns-in-Err-take_in : goal.returns-in-Err-take_in
returns-in-Err-take_in c =
    let t = take-refused c.args.tables.now c.args.negotiation.now c.args.message.now c.args.scratch.now c.fits.ensures
    (ap not c.if-not-fits.false) (Ok c.find.new.self) (sym (found-standing _ _) ∙ c.in_default.ensures.found) refl c.take_in.result c.take_in.new.n c.take_in.ensures.taken
    c.in-Err-take_in.is in
    record { answered = t.0; left = t.1.0; cleared = t.1.1 }

pub write-requires : goal.write-requires
write-requires c = (
  c.in_default-take_in.ensures.sized.sizes,
  restored-length _ _ c.find.new.self (sym (found-standing _ _) ∙ c.in_default.ensures.found),
)

pub returns : goal.returns
returns c =
    let t = take-accepted c.args.tables.now c.args.negotiation.now c.args.message.now c.args.scratch.now c.fits.ensures
    (ap not c.if-not-fits.false) (Ok c.find.new.self) (sym (found-standing _ _) ∙ c.in_default.ensures.found) refl c.take_in.result c.take_in.new.n c.take_in.ensures.taken
    c.in_default-take_in.is c.write.ensures c.write_zeros.ensures in
    record { answered = t.0; left = t.1.0; cleared = t.1.1 }
