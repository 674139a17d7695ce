use Rattle.closure.specs.laws.Rules.{Grown}
use Rattle.closure.proofs.word_worklist.run_word.Given as goal

abbrev pub invariant-loop-fuel : goal.invariant-loop-fuel
invariant-loop-fuel l = Grown l.rules l.on l.own l.mem l.initial.rows l.rows

abbrev pub decreases-loop-fuel : goal.decreases-loop-fuel
decreases-loop-fuel l = l.fuel
