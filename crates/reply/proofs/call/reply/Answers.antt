use mathlib.Core.Path.{refl, ap, sym, ◌∙◌}
use Rattle.std.specs.Prelude.{Ok, Err}
use mathlib.Core.Bool.{not}
use native.Mathlib.Omega.{arith}
use Rattle.standing.specs.laws.Standing.{found-standing, refused-standing, restored-length}
use Rattle.reply.specs.laws.Call.{reply-size, size-parts, reply-unrestored, restored-sound, reply-refused, reply-given}
use Rattle.reply.proofs.call.reply.Goals as goal

pub returns-then-not-fits : goal.returns-then-not-fits
returns-then-not-fits c =
    let t = reply-size c.args.tables.now c.args.negotiation.now c.args.reply.now c.args.scratch.now c.fits.ensures (ap not c.if-not-fits.true) in
    record { answered = t.0; left = t.1.0; written = t.1.1.0; cleared = t.1.1.1 }

pub returns-in-Err : goal.returns-in-Err
returns-in-Err c =
    let t = reply-unrestored c.args.tables.now c.args.negotiation.now c.args.reply.now c.args.scratch.now c.fits.ensures
    (ap not c.if-not-fits.false) (Err _) (sym (refused-standing _ _) ∙ c.in-Err.ensures.found) refl in
    record { answered = t.0; left = t.1.0; written = t.1.1.0; cleared = t.1.1.1 }

pub reply_in-requires : goal.reply_in-requires
reply_in-requires c = (
  c.in_default.ensures.kept.housed,
  restored-sound c.args.tables.now c.args.negotiation.now c.args.reply.now c.args.scratch.now c.fits.ensures
      (ap not c.if-not-fits.false) (Ok c.find.new.self) (sym (found-standing _ _) ∙ c.in_default.ensures.found) refl,
  c.in_default.ensures.kept.is-sound,
  c.in_default.ensures.kept.within-sizes,
  (size-parts c.args.tables.now c.args.negotiation.now c.args.reply.now c.args.scratch.now c.fits.ensures (ap not c.if-not-fits.false)).0,
)

pub returns-in-Err-reply_in : goal.returns-in-Err-reply_in
returns-in-Err-reply_in c =
    let t = reply-refused c.args.tables.now c.args.negotiation.now c.args.reply.now c.args.scratch.now c.fits.ensures
    (ap not c.if-not-fits.false) (Ok c.find.new.self) (sym (found-standing _ _) ∙ c.in_default.ensures.found) refl c.reply_in.new.n c.reply_in.result c.reply_in.ensures
    c.in-Err-reply_in.is in
    record { answered = t.0; left = t.1.0; written = t.1.1.0; cleared = t.1.1.1 }

pub write-requires : goal.write-requires
write-requires c =
    (c.reply_in.ensures.sizes _ c.in-Ok.is, restored-length _ _ c.find.new.self (sym (found-standing _ _) ∙ c.in_default.ensures.found))

pub write_zeros-requires : goal.write_zeros-requires
write_zeros-requires c =
    let sizes = size-parts c.args.tables.now c.args.negotiation.now c.args.reply.now c.args.scratch.now c.fits.ensures (ap not c.if-not-fits.false) in
    (omega arith, omega (arith, sizes.1))

pub overflow_mul-result : goal.overflow_mul-result
overflow_mul-result c = omega (arith, c.reply_in.ensures.few _ c.in-Ok.is)

pub returns : goal.returns
returns c =
    let t = reply-given c.args.tables.now c.args.negotiation.now c.args.reply.now c.args.scratch.now c.fits.ensures
    (ap not c.if-not-fits.false) (Ok c.find.new.self) (sym (found-standing _ _) ∙ c.in_default.ensures.found) refl c.reply_in.new.n c.reply_in.result c.reply_in.ensures
    c.in-Ok.is c.write.ensures c.write_zeros.ensures in
    record { answered = t.0; left = t.1.0; written = t.1.1.0; cleared = t.1.1.1 }
