use native.Mathlib.Omega.{arith}
use Rattle.reply.specs.laws.Outgoing.{counted_start, counted_next, counted-end}
use Rattle.reply.proofs.carry.count_on.Goals as goal

pub loop-k-init : goal.loop-k-init
loop-k-init c = counted_start _ _

pub overflow_add-n : goal.overflow_add-n
overflow_add-n c = omega (arith, c.one_if-n.ensures.few, c.loop-k.invariant.few)

pub loop-k-preserved : goal.loop-k-preserved
loop-k-preserved c = counted_next _ _ c.loop-k.invariant (omega arith) c.one_if-n.ensures.counted

pub returns : goal.returns
returns c =
    record {
      counted = counted-end _ _ c.loop-k.invariant (omega arith);
      few = omega (arith, c.loop-k.invariant.few, c.loop-k.invariant.inside, c.requires);
    }
