use mathlib.Core.Path.{ap}
use mathlib.Core.Bool.{not}
use borrow.Author.Tests.{not-true, not-false}
use mathlib.Core.Path.{subst}
use Rattle.arrange.specs.laws.Writing.{Fresh, writing-place, writing-skip, writing-next}
use Rattle.arrange.proofs.write.write_next.Goals as goal

pub returns-then-not-is_fresh : goal.returns-then-not-is_fresh
returns-then-not-is_fresh c =
    writing-skip c.requires.0 c.requires.3 c.requires.2
    (subst (Fresh c.args.s.now c.args.entries.now c.args.i) (not-true _ (ap not c.if-not-is_fresh.true)) c.is_fresh.ensures)

pub write_record-requires : goal.write_record-requires
write_record-requires c = writing-place c.requires.0 c.requires.3 c.requires.1 _ c.place_of.ensures

pub returns : goal.returns
returns c = let r = c.write_record.ensures in
    writing-next c.requires.0 c.requires.3 c.requires.2
    (subst (Fresh c.args.s.now c.args.entries.now c.args.i) (not-false _ (ap not c.if-not-is_fresh.false))
    c.is_fresh.ensures)
    _ c.place_of.ensures _ _ r.written r.behind
