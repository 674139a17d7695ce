use borrow.Author.Tests.{eq-eqb, le-ltb}
use Rattle.closure.specs.laws.Rules.{bits}
use Rattle.relation.proofs.start.own_role.Goals as goal

pub returns-then-s-ge128 : goal.returns-then-s-ge128
unfolding bits
returns-then-s-ge128 c = λ H a h. rw (eq-eqb _ _ c.if-q-m.false, ← c.source-s.ensures, le-ltb c.source-s.result 128 c.if-s-ge128.true)

pub returns : goal.returns
returns c = λ H a h. rw (eq-eqb _ _ c.if-q-m.false, ← c.source-s.ensures, ← h)
    c.bit.ensures
