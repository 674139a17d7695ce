use mathlib.Core.Path.{sym, ap}
use mathlib.Core.Bool.{Bool, cond}
use borrow.Author.Tests.{eq-eqb, ne_eqb}
use Rattle.standing.proofs.turn.other_side.Goals as goal

pub returns-then-side-eq0 : goal.returns-then-side-eq0
returns-then-side-eq0 c = ap (λ (b : Bool). cond b 1 0) (sym (eq-eqb _ 0 c.if-side-eq0.true))

pub returns-else-side-eq0 : goal.returns-else-side-eq0
returns-else-side-eq0 c = ap (λ (b : Bool). cond b 1 0) (sym (ne_eqb _ 0 c.if-side-eq0.false))
