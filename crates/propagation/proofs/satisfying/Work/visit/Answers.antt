use native.Mathlib.Omega.{arith}
use mathlib.Core.Path.{ap, ◌∙◌, refl}
use Rattle.propagation.specs.laws.Flags.{flag}
use Rattle.propagation.specs.laws.WorkLaws.{visit-follow, visit-skip, visit-all}
use Rattle.propagation.proofs.satisfying.Work.visit.Goals as goal

pub bounds-links-j : goal.bounds-links-j
bounds-links-j c = let v = c.loop-h.invariant c.requires.1.0 c.requires.1.1 c.requires.1.2 c.requires.1.3 in
    omega (arith, v.low, v.base.few)

pub bring-requires : goal.bring-requires
bring-requires c = let v = c.loop-h.invariant c.requires.1.0 c.requires.1.1 c.requires.1.2 c.requires.1.3 in
    (c.requires.1.0, _, omega (arith, v.low), v.base)

pub offset_bounds-chains-j : goal.offset_bounds-chains-j
offset_bounds-chains-j c = let v = c.loop-h.invariant c.requires.1.0 c.requires.1.1 c.requires.1.2 c.requires.1.3 in
    omega (arith, v.low, v.base.few)

pub bounds-chains-j : goal.bounds-chains-j
bounds-chains-j c = let v = c.loop-h.invariant c.requires.1.0 c.requires.1.1 c.requires.1.2 c.requires.1.3 in
    omega (arith, v.low, v.base.few)

pub loop-h-preserved-then-links-j : goal.loop-h-preserved-then-links-j
loop-h-preserved-then-links-j c m chained base full = let was = c.loop-h.invariant m chained base full in
    let on = ap (flag c.loop-h.self.sat) c.if-links-j.true ∙ was.later.sat-grows _ c.requires.0 in
    visit-follow _ _ (omega arith) refl c.if-links-j.true chained was (c.bring.ensures m _ (omega (arith, was.low)) on was.base was.full)

pub loop-h-preserved : goal.loop-h-preserved
loop-h-preserved c m chained base full = visit-skip (omega arith) c.if-links-j.false (c.loop-h.invariant m chained base full)

pub returns : goal.returns
returns c m chained base full = visit-all c.loop-h-test.false (c.loop-h.invariant m chained base full)
