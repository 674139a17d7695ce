use mathlib.Core.Path.{◌≡◌}
use Rattle.expression.specs.declared.Expression.{Expression}
use Rattle.expression.specs.Form.{raw_of}
use Rattle.relation.specs.laws.Question.{AskedTo}
use Rattle.relation.proofs.start.asked.Given as goal

abbrev pub invariant-loop-i : goal.invariant-loop-i
invariant-loop-i l = (e : Expression) → l.raw ≡ raw_of e → AskedTo l.pool l.on l.mem e l.i l.rows
