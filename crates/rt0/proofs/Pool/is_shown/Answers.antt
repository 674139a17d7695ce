use native.Mathlib.Omega.{arith}
use Rattle.rt0.specs.laws.Shown.{shown-at, shown-none}
use Rattle.rt0.specs.laws.Find.{missed-start, missed_more}
use Rattle.rt0.proofs.Pool.is_shown.Goals as goal

pub loop-i-init : goal.loop-i-init
loop-i-init c = λ d k q. missed-start _ _

pub is_at-requires : goal.is_at-requires
is_at-requires c = omega (arith, c.requires, c.loop-i-test.true)

pub returns-then-is_at : goal.returns-then-is_at
returns-then-is_at c = let d = c.args.c in
    let k = c.key_of-key.ensures in
    let q = c.raw_of-raw.ensures in
    shown-at _ _ (c.loop-i.invariant d k q) c.loop-i-test.true (c.is_at.ensures d k q) c.if-is_at.true

pub loop-i-preserved : goal.loop-i-preserved
loop-i-preserved c = λ d k q. missed_more (c.loop-i.invariant d k q) (c.is_at.ensures d k q) c.if-is_at.false

pub returns : goal.returns
returns c = shown-none _ _ (c.loop-i.invariant c.args.c c.key_of-key.ensures c.raw_of-raw.ensures) c.loop-i-test.false
