use mathlib.Core.List.{[]}
use native.Mathlib.Omega.{arith}
use Rattle.frontier.specs.laws.QueueLaws.{empty, tail-few, run-start, run-next, run_end}
use Rattle.frontier.proofs.reached.Goals as goal

pub enter-requires : goal.enter-requires
enter-requires c = (c.requires, empty)

pub loop-q-init : goal.loop-q-init
loop-q-init c = run-start (c.enter.ensures [] []).base

pub bounds-work-q : goal.bounds-work-q
bounds-work-q c = omega (arith, tail-few c.loop-q.invariant.base)

pub overflow_add-q : goal.overflow_add-q
overflow_add-q c = omega (arith, tail-few c.loop-q.invariant.base)

pub loop-q-smaller : goal.loop-q-smaller
loop-q-smaller c = omega (arith, tail-few c.loop-q.invariant.base)

pub loop-q-preserved : goal.loop-q-preserved
loop-q-preserved c = run-next _ c.loop-q-test.true c.wide-j.ensures c.loop-q.invariant c.follow.ensures

pub returns : goal.returns
returns c = run_end _ c.loop-q-test.false (c.enter.ensures _ _) c.loop-q.invariant
