use Rattle.closure.specs.laws.Laws.{turn-new, turn-same}
use Rattle.closure.proofs.rounds.turn.Goals as goal

pub returns-then-w-old : goal.returns-then-w-old
returns-then-w-old c = λ l. turn-new c.args.rules.now _ _ _ _ _ _ c.requires.2 c.requires.1 l c.told-rows (rw c.membership.ensures at c.word.ensures) _
    c.join-w.ensures.0 c.if-w-old.true c.join-w.ensures.1

pub returns : goal.returns
returns c = λ l. turn-same c.args.rules.now _ _ _ _ _ _ c.requires.2 c.requires.1 l c.told-rows (rw c.membership.ensures at c.word.ensures) _
    c.join-w.ensures.0 c.if-w-old.false
