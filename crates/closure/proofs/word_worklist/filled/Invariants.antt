use Rattle.closure.specs.laws.Words.{FilledOf}
use Rattle.closure.proofs.word_worklist.filled.Given as goal

abbrev pub invariant-loop-r : goal.invariant-loop-r
invariant-loop-r l = FilledOf l.r l.rows l.w
