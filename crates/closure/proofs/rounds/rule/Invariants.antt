use Rattle.closure.specs.laws.Laws.{RuleTo}
use Rattle.closure.proofs.rounds.rule.Given as goal

abbrev pub invariant-loop-h : goal.invariant-loop-h
invariant-loop-h l = RuleTo l.rules l.on l.own l.mem l.i l.initial.rows l.rows l.grew l.h
