use Rattle.tables.specs.laws.Tables.{tables_of}
use Rattle.negotiation.specs.laws.State.{state_of}
use Rattle.rt0.specs.laws.Pool.{credentials}
use Rattle.candidates.specs.laws.Reach.{Recalls}
use Rattle.sending.specs.laws.Fresh.{Fresh}
use Rattle.choice.specs.laws.Exhausted.{Exhausted}
use Rattle.choice.specs.laws.Waits.{Waits}
use Rattle.reply.specs.laws.Writing.{Writing}
use Rattle.reply.proofs.turns.reply_from.Given as goal

abbrev pub invariant-loop-left : goal.invariant-loop-left
invariant-loop-left l =
    Writing (tables_of l.own.house) (state_of l.initial.n) l.initial.at l.initial.s (state_of l.n) l.at l.left l.s × Exhausted (tables_of l.own.house) (state_of l.n) l.passed
    × Waits (tables_of l.own.house) (state_of l.n) l.last.satisfied l.last.failed l.waiting × Recalls l.own l.reach
    × Fresh (credentials l.n.shown) l.own l.unshown.seen l.unshown.issuer l.unshown.subject

abbrev pub decreases-loop-left : goal.decreases-loop-left
decreases-loop-left l = l.left
