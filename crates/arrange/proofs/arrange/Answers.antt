use Prim.Native.Nat.{ℕ}
use mathlib.Core.Path.{sym, ap, ◌∙◌, subst}
use mathlib.Core.List.{List}
use native.Mathlib.Omega.{arith}
use lib.ListN.{length}
use lib.Seq.{length-take-le}
use Rattle.numbers.specs.Answer.{answer_of}
use Rattle.arrange.specs.Arrange.{tables_left}
use Rattle.arrange.specs.laws.Arrange.{Lays, LaidOut, refused-few, refused-many, refused-unread, judged-laid}
use Rattle.arrange.proofs.arrange.Goals as goal

pub returns-then-records-eq0 : goal.returns-then-records-eq0
returns-then-records-eq0 c = let T : List ℕ = c.args.tables.now in
    let u = refused-few c.args.records.now (length T) c.if-records-eq0.true in
    record { answered = sym (ap (answer_of length) u); left = sym (ap (tables_left T) u) }

pub returns-then-records-gt-MOST_TABLES_BYTES : goal.returns-then-records-gt-MOST_TABLES_BYTES
returns-then-records-gt-MOST_TABLES_BYTES c = let T : List ℕ = c.args.tables.now in
    let u = refused-many c.args.records.now (length T) c.if-records-gt-MOST_TABLES_BYTES.true in
    record { answered = sym (ap (answer_of length) u); left = sym (ap (tables_left T) u) }

pub returns-in_default : goal.returns-in_default
returns-in_default c = let s : List ℕ = c.args.records.now in
    let T : List ℕ = c.args.tables.now in
    let o = c.lay_out in
    let u = refused-unread s (length T) (omega arith) (omega arith) (subst (Lays s o.new.out) c.in_default.is o.ensures) in
    record { answered = sym (ap (answer_of length) u); left = sym (ap (tables_left T) u) }

pub slice_bounds-hand_over-end : goal.slice_bounds-hand_over-end
slice_bounds-hand_over-end c = let s : List ℕ = c.args.records.now in
    let o = c.lay_out in
    let w : LaidOut s o.new.out c.in-Some.n = subst (Lays s o.new.out) c.in-Some.is o.ensures in
    sym (length-take-le _ _ w.room)

pub hand_over-requires : goal.hand_over-requires
hand_over-requires c = let s : List ℕ = c.args.records.now in
    let o = c.lay_out in
    let w : LaidOut s o.new.out c.in-Some.n = subst (Lays s o.new.out) c.in-Some.is o.ensures in
    let e = length-take-le c.in-Some.n o.new.out w.room in
    omega (arith, w.few)

pub returns : goal.returns
returns c = let s : List ℕ = c.args.records.now in
    let o = c.lay_out in
    let w : LaidOut s o.new.out c.in-Some.n = subst (Lays s o.new.out) c.in-Some.is o.ensures in
    let T : List ℕ = c.args.tables.now in
    let u = judged-laid s (length T) (omega arith) (omega arith) w in
    let h = c.hand_over.ensures in
    record { answered = h.answered ∙ sym (ap (answer_of length) u); left = h.left ∙ sym (ap (tables_left T) u) }
