use Rattle.closure.specs.laws.Words.{HeldOf}
use Rattle.closure.proofs.rounds.held.Given as goal

abbrev pub invariant-loop-r : goal.invariant-loop-r
invariant-loop-r l = HeldOf l.h l.r l.rows l.w
