use native.Mathlib.Omega.{arith}
use mathlib.Core.Path.{sym, ◌∙◌}
use Rattle.class.specs.laws.Names.{names_of}
use Rattle.negotiation.specs.laws.Within.{within-few}
use Rattle.legal.specs.laws.Room.{legal-room}
use Rattle.take.specs.laws.Progress.{CurrentFor, keeps-start, current-left, current-made, proved-for, keeps-next, moved-next}
use Rattle.take.specs.laws.Commands.{reading-start, reading-past, reading-unread, reading-illegal, reading-end, reading-next, fewer-left}
use Rattle.take.proofs.commands.carry_out.Goals as goal
use Rattle.take.proofs.commands.carry_out.Goals.{then-kept-is_implication, else-kept-is_implication}

pub loop-at-init : goal.loop-at-init
loop-at-init c = (
  reading-start _ _ _ _ c.none-kept.ensures.0 c.requires.2 c.requires.3,
  keeps-start _ _ _ c.none-kept.ensures.1 c.none-kept.ensures.2,
)

pub returns-in_default-clause-taken : goal.returns-in_default-clause-taken
returns-in_default-clause-taken c =
    reading-unread (names_of c.args.names.now) c.args.sender c.args.message.now c.loop-at.invariant.0 c.loop-at-test.true
    c.next_command-next.ensures.0 _ c.in_default.is c.refusal_of.ensures

pub proved_by-known-requires : goal.proved_by-known-requires
proved_by-known-requires c = omega (arith, (within-few _ c.loop-at.invariant.0.sizes).2)

pub ready-requires : goal.ready-requires
ready-requires c = (c.loop-at.invariant.0.sizes, c.loop-at.invariant.0.formed, c.loop-at.invariant.1.settled)

pub is_proved-proved-requires : goal.is_proved-proved-requires
is_proved-proved-requires c =
    let current : CurrentFor c.loop-at.kept.stale c.in-Ok.c c.if-kept-is_implication.known c.loop-at.n.shown
    = elim c.if-kept-is_implication.branch [
      | then-kept-is_implication w ↦ current-made _ _ _ _ _ w.proved_by-known.ensures.known w.proved_by-known.ensures.same w.known-is
      | else-kept-is_implication w ↦ current-left _ _ _ _ _ c.loop-at.invariant.1.current c.is_implication.ensures w.if-kept-is_implication.false w.known-is
    ] in
    ((within-few _ c.loop-at.invariant.0.sizes).0, (c.if-kept-is_implication.known.rules.words, proved-for _ _ _ _ current))

pub judge-k-requires : goal.judge-k-requires
judge-k-requires c = (c.requires.0, c.requires.1, c.loop-at.invariant.0.sizes, c.is_proved-proved.ensures, c.ready.ensures.says)

pub returns-then-k-ne0-clause-taken : goal.returns-then-k-ne0-clause-taken
returns-then-k-ne0-clause-taken c =
    reading-illegal (names_of c.args.names.now) c.args.sender c.args.message.now c.loop-at.invariant.0 c.loop-at-test.true
    c.next_command-next.ensures.0 c.in-Ok.is c.judge-k.ensures _ c.if-k-ne0.true

pub returns-then-is_end-clause-taken : goal.returns-then-is_end-clause-taken
returns-then-is_end-clause-taken c =
    reading-end (names_of c.args.names.now) c.args.sender c.args.message.now c.loop-at.invariant.0 c.loop-at-test.true
    c.next_command-next.ensures.0 c.in-Ok.is c.judge-k.ensures c.if-k-ne0.false c.is_end.ensures c.if-is_end.true c.ready.ensures.moved

pub returns-then-is_end-clause-sized : goal.returns-then-is_end-clause-sized
returns-then-is_end-clause-sized c = record { sizes = c.loop-at.invariant.0.sizes; formed = c.loop-at.invariant.0.formed }

pub carry-requires : goal.carry-requires
carry-requires c = (within-few _ c.loop-at.invariant.0.sizes).0

pub step-requires : goal.step-requires
step-requires c = (c.loop-at.invariant.0.sizes, legal-room _ _ _ _ (sym c.judge-k.ensures ∙ c.if-k-ne0.false))

pub loop-at-smaller : goal.loop-at-smaller
loop-at-smaller c = fewer-left _ _ c.next_command-next.ensures.0 c.in-Ok.is c.next_command-next.ensures.1

pub loop-at-preserved : goal.loop-at-preserved
loop-at-preserved c =
    let current : CurrentFor c.loop-at.kept.stale c.in-Ok.c c.if-kept-is_implication.known c.loop-at.n.shown
    = elim c.if-kept-is_implication.branch [
      | then-kept-is_implication w ↦ current-made _ _ _ _ _ w.proved_by-known.ensures.known w.proved_by-known.ensures.same w.known-is
      | else-kept-is_implication w ↦ current-left _ _ _ _ _ c.loop-at.invariant.1.current c.is_implication.ensures w.if-kept-is_implication.false w.known-is
    ] in (
      reading-next _ _ _ c.loop-at.invariant.0 c.loop-at-test.true c.next_command-next.ensures.0 c.in-Ok.is c.judge-k.ensures
          c.if-k-ne0.false c.is_end.ensures c.if-is_end.false c.step.ensures (moved-next _ _ c.ready.ensures c.carry.ensures)
          c.next_command-next.ensures.1,
      keeps-next _ _ _ _ current c.ready.ensures c.step.ensures c.carry.ensures,
    )

pub returns-clause-taken : goal.returns-clause-taken
returns-clause-taken c =
    reading-past (names_of c.args.names.now) c.args.sender c.args.message.now c.loop-at.invariant.0 _ c.loop-at-test.false
