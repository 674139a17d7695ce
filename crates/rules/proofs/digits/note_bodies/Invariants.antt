use Rattle.rules.specs.laws.Digits.{BodiesIn}
use Rattle.rules.proofs.digits.note_bodies.Given as goal

abbrev pub invariant-loop-j : goal.invariant-loop-j
invariant-loop-j l = BodiesIn l.pool.kinds l.pool.numbers l.j l.body
