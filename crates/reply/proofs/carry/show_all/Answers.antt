use native.Mathlib.Omega.{arith}
use Rattle.negotiation.specs.laws.State.{state_of}
use Rattle.reply.specs.laws.Carry.{showing-length, showing-start, showing-end, showing-room, showing-fits, showing-next, showing-inside}
use Rattle.reply.proofs.carry.show_all.Goals as goal

pub loop-k-init : goal.loop-k-init
loop-k-init c = showing-start _ _ _ _ _ c.requires.1 c.requires.2 c.requires.3

pub show_at-requires : goal.show_at-requires
show_at-requires c = (
  omega arith,
  showing-room _ _ _ _ _ c.loop-k.invariant (omega arith),
  showing-fits _ _ _ _ _ c.loop-k.invariant (omega arith),
)

pub overflow_mul-at : goal.overflow_mul-at
overflow_mul-at c = omega (arith, c.one_if.ensures.few)

pub overflow_add-at : goal.overflow_add-at
overflow_add-at c = omega (arith, showing-inside _ _ _ _ _ c.loop-k.invariant (omega arith) c.one_if.ensures.counted)

pub loop-k-preserved : goal.loop-k-preserved
loop-k-preserved c =
    showing-next _ _ _ _ _ c.loop-k.invariant (omega arith) c.show_at.ensures.shown c.show_at.ensures.written c.one_if.ensures.counted

pub shape_of-s : goal.shape_of-s
shape_of-s c = showing-length _ _ _ _ _ c.loop-k.invariant

pub returns : goal.returns
returns c =
    let t = showing-end c.args.pool.now c.args.on.now (state_of c.args.n.now) c.args.s.now c.args.from c.loop-k.invariant (omega arith) in
    record { shown = t.0; written = t.1 }
