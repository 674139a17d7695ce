use Rattle.closure.proofs.word_worklist.owned.Given as goal

abbrev pub decreases-loop-m : goal.decreases-loop-m
decreases-loop-m l = l.m
