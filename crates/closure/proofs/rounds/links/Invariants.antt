use Rattle.closure.specs.laws.Laws.{LinksTo}
use Rattle.closure.proofs.rounds.links.Given as goal

abbrev pub invariant-loop-m : goal.invariant-loop-m
invariant-loop-m l = LinksTo l.named l.base l.h l.first l.src l.vals l.mem l.m l.w

abbrev pub decreases-loop-m : goal.decreases-loop-m
decreases-loop-m l = l.m
