use mathlib.Core.Path.{ap}
use mathlib.Core.Bool.{not}
use native.Mathlib.Omega.{arith}
use Rattle.tables.specs.laws.Tables.{tables_of}
use Rattle.negotiation.specs.laws.State.{state_of}
use Rattle.moves.specs.laws.Own.{commands_of}
use Rattle.rt0.specs.laws.Pool.{credentials}
use Rattle.candidates.specs.laws.Reach.{Recalls, recalls-none}
use Rattle.choice.specs.laws.Exhausted.{Exhausted, exhausted-none}
use Rattle.choice.specs.laws.Waits.{Waits}
use Rattle.reply.specs.laws.Fresh.{fresh-next}
use Rattle.reply.specs.laws.Turn.{going-ready, something, next-satisfied, next-none, next-full, next-long, next-goes}
use Rattle.reply.specs.laws.Writing.{Writing, writing_start, writing-length, writing-past, writing-stops, writing-room, writing-next, exhausted-next}
use Rattle.reply.specs.laws.Writing.{waits_start, waits-next, waits-now}
use Rattle.reply.proofs.turns.reply_from.Goals as goal

pub loop-left-init : goal.loop-left-init
loop-left-init c = (
  writing_start _ _ _ _ c.requires.1 c.requires.2 c.requires.3,
  exhausted-none _ _,
  waits_start _ _ _ _ c.requires.1,
  recalls-none _ _ c.no_reach-reach.ensures,
  c.new-unshown.ensures _,
)

pub node_states-states-requires : goal.node_states-states-requires
node_states-states-requires c = let g = going-ready (tables_of c.args.own.now.house) c.loop-left.n c.loop-left.invariant.0.going in (g.1, g.2, g.3, g.4)

pub shape_of-s-then-states-eq1 : goal.shape_of-s-then-states-eq1
shape_of-s-then-states-eq1 c = writing-length _ _ _ _ c.loop-left.n c.loop-left.invariant.0

pub returns-then-states-eq1 : goal.returns-then-states-eq1
returns-then-states-eq1 c =
    writing-stops _ _ _ _ c.loop-left.n c.loop-left.invariant.0 c.loop-left-test.true
    (next-satisfied (tables_of c.args.own.now.house) c.loop-left.n c.loop-left.at c.node_states-states.ensures c.if-states-eq1.true)

pub resting-rests-requires : goal.resting-rests-requires
resting-rests-requires c = (going-ready (tables_of c.args.own.now.house) c.loop-left.n c.loop-left.invariant.0.going).2

pub next_choice-turn-requires : goal.next_choice-turn-requires
next_choice-turn-requires c = let g = going-ready (tables_of c.args.own.now.house) c.loop-left.n c.loop-left.invariant.0.going in (
  c.requires.0,
  c.loop-left.invariant.0.going.sizes,
  g.0,
  g.3,
  g.4,
  c.node_states-states.ensures,
  c.loop-left.invariant.1,
  waits-now (tables_of c.args.own.now.house) c.loop-left.n c.loop-left.invariant.0.going c.node_states-states.ensures c.loop-left.invariant.2
      c.resting-rests.ensures,
  c.loop-left.invariant.3,
)

pub shape_of-s-then-is_nothing : goal.shape_of-s-then-is_nothing
shape_of-s-then-is_nothing c = writing-length _ _ _ _ c.loop-left.n c.loop-left.invariant.0

pub returns-then-is_nothing : goal.returns-then-is_nothing
returns-then-is_nothing c =
    writing-stops _ _ _ _ c.loop-left.n c.loop-left.invariant.0 c.loop-left-test.true
    (next-none (tables_of c.args.own.now.house) c.loop-left.n c.loop-left.at c.node_states-states.ensures c.loop-left.invariant.0.going
    c.if-states-eq1.false c.next_choice-turn.result.found c.next_choice-turn.ensures.found c.is_nothing.ensures c.if-is_nothing.true)

pub outgoing-out-requires : goal.outgoing-out-requires
outgoing-out-requires c = let found = c.next_choice-turn.result.found in (
  c.requires.0,
  c.loop-left.invariant.0.going.sizes,
  c.next_choice-turn.ensures.standing,
  something found.choice c.is_nothing.ensures c.if-is_nothing.false,
  c.loop-left.invariant.4,
)

pub room_for-requires : goal.room_for-requires
room_for-requires c = (c.loop-left.invariant.0.going.sizes, c.outgoing-out.ensures.few)

pub shape_of-s-then-not-room_for : goal.shape_of-s-then-not-room_for
shape_of-s-then-not-room_for c = writing-length _ _ _ _ c.loop-left.n c.loop-left.invariant.0

pub returns-then-not-room_for : goal.returns-then-not-room_for
returns-then-not-room_for c =
    writing-stops _ _ _ _ c.loop-left.n c.loop-left.invariant.0 c.loop-left-test.true
    (next-full (tables_of c.args.own.now.house) c.loop-left.n c.loop-left.at c.node_states-states.ensures c.loop-left.invariant.0.going
    c.if-states-eq1.false c.next_choice-turn.result.found c.next_choice-turn.ensures.found c.outgoing-out.result c.outgoing-out.ensures.sent
    c.room_for.ensures (ap not c.if-not-room_for.true))

pub size_of_outgoing-size-requires : goal.size_of_outgoing-size-requires
size_of_outgoing-size-requires c = c.outgoing-out.ensures.few

pub overflow_add-at : goal.overflow_add-at
overflow_add-at c = omega (arith, c.size_of_outgoing-size.ensures.few, c.loop-left.invariant.0.most)

pub overflow_add-at-in-loop-left : goal.overflow_add-at-in-loop-left
overflow_add-at-in-loop-left c = omega (arith, c.size_of_outgoing-size.ensures.few, c.loop-left.invariant.0.most)

pub shape_of-s-then-at-size-gt-MOST_MESSAGE_BYTES : goal.shape_of-s-then-at-size-gt-MOST_MESSAGE_BYTES
shape_of-s-then-at-size-gt-MOST_MESSAGE_BYTES c = writing-length _ _ _ _ c.loop-left.n c.loop-left.invariant.0

pub returns-then-at-size-gt-MOST_MESSAGE_BYTES : goal.returns-then-at-size-gt-MOST_MESSAGE_BYTES
returns-then-at-size-gt-MOST_MESSAGE_BYTES c =
    writing-stops _ _ _ _ c.loop-left.n c.loop-left.invariant.0 c.loop-left-test.true
    (next-long (tables_of c.args.own.now.house) c.loop-left.n c.loop-left.at c.node_states-states.ensures c.loop-left.invariant.0.going
    c.if-states-eq1.false c.next_choice-turn.result.found c.next_choice-turn.ensures.found c.outgoing-out.result c.outgoing-out.ensures.sent
    c.room_for.ensures (ap not c.if-not-room_for.false) c.size_of_outgoing-size.ensures.size c.if-at-size-gt-MOST_MESSAGE_BYTES.true)

pub carry-requires : goal.carry-requires
carry-requires c = let w = writing-room _ _ _ _ c.loop-left.n c.loop-left.invariant.0 c.loop-left-test.true
    (next-goes (tables_of c.args.own.now.house) c.loop-left.n c.loop-left.at c.node_states-states.ensures c.loop-left.invariant.0.going
    c.if-states-eq1.false c.next_choice-turn.result.found c.next_choice-turn.ensures.found c.outgoing-out.result c.outgoing-out.ensures.sent
    c.room_for.ensures (ap not c.if-not-room_for.false) c.size_of_outgoing-size.ensures.size c.if-at-size-gt-MOST_MESSAGE_BYTES.false) in
    (c.loop-left.invariant.0.going.sizes, c.outgoing-out.ensures.few, w.0, w.1, w.2)

pub overflow_add-at-in-loop-left-2 : goal.overflow_add-at-in-loop-left-2
overflow_add-at-in-loop-left-2 c = omega (arith, c.size_of_outgoing-size.ensures.few, c.loop-left.invariant.0.most)

pub overflow_sub-left : goal.overflow_sub-left
overflow_sub-left c = omega (arith, c.loop-left-test.true)

pub loop-left-smaller : goal.loop-left-smaller
loop-left-smaller c = omega (arith, c.loop-left-test.true)

pub loop-left-preserved : goal.loop-left-preserved
loop-left-preserved c = let g = c.loop-left.invariant.0.going in (
  writing-next _ _ _ _ c.loop-left.n c.loop-left.invariant.0 c.loop-left-test.true
      (next-goes (tables_of c.args.own.now.house) c.loop-left.n c.loop-left.at c.node_states-states.ensures c.loop-left.invariant.0.going
      c.if-states-eq1.false c.next_choice-turn.result.found c.next_choice-turn.ensures.found c.outgoing-out.result c.outgoing-out.ensures.sent
      c.room_for.ensures (ap not c.if-not-room_for.false) c.size_of_outgoing-size.ensures.size c.if-at-size-gt-MOST_MESSAGE_BYTES.false)
      c.carry.new.n c.carry.ensures.led c.carry.ensures.written c.size_of_outgoing-size.ensures.size,
  exhausted-next (tables_of c.args.own.now.house) c.loop-left.n c.carry.new.n (commands_of c.outgoing-out.result) g
      c.carry.ensures.led c.loop-left.invariant.1 c.next_choice-turn.ensures.standing c.next_choice-turn.ensures.idle c.wide-waiting.ensures c.larger-passed.ensures,
  waits-next (tables_of c.args.own.now.house) c.loop-left.n c.carry.new.n c.next_choice-turn.result.found g c.outgoing-out.ensures.sent
      c.carry.ensures.led c.node_states-states.ensures c.next_choice-turn.ensures.standing c.next_choice-turn.ensures.idle
      c.wide-waiting.ensures,
  c.next_choice-turn.ensures.recalls,
  fresh-next c.loop-left.n c.carry.new.n _ (commands_of c.outgoing-out.result) c.carry.ensures.led c.outgoing-out.ensures.fresh,
)

pub shape_of-s : goal.shape_of-s
shape_of-s c = writing-length _ _ _ _ c.loop-left.n c.loop-left.invariant.0

pub returns : goal.returns
returns c =
    writing-past _ _ _ _ c.loop-left.n c.loop-left.invariant.0 c.loop-left-test.false
