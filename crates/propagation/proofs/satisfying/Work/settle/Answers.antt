use native.Mathlib.Omega.{arith}
use Rattle.propagation.specs.laws.WorkLaws.{settle_step, done_all, tail-few}
use Rattle.propagation.proofs.satisfying.Work.settle.Goals as goal

pub bounds-self-q : goal.bounds-self-q
bounds-self-q c = omega (arith, tail-few (c.loop-q.invariant c.requires.0 c.requires.1 c.requires.2).base)

pub visit-requires : goal.visit-requires
visit-requires c = let l = c.loop-q.invariant c.requires.0 c.requires.1 c.requires.2 in
    ((l.base.standing _ c.loop-q-test.true).1, (c.requires.0, c.requires.1, l.base, l.full))

pub loop-q-smaller : goal.loop-q-smaller
loop-q-smaller c = omega (arith, tail-few (c.loop-q.invariant c.requires.0 c.requires.1 c.requires.2).base)

pub loop-q-preserved : goal.loop-q-preserved
loop-q-preserved c m chained done = let was = c.loop-q.invariant m chained done in
    settle_step _ c.loop-q-test.true was (c.visit.ensures m chained was.base was.full)

pub returns : goal.returns
returns c m chained done = done_all _ c.loop-q-test.false (c.loop-q.invariant m chained done)
