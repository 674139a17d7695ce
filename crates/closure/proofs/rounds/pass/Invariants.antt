use Rattle.closure.specs.laws.Rules.{bits, Within}
use Rattle.closure.specs.laws.Words.{level}
use Rattle.closure.specs.laws.Laws.{PassTo}
use Rattle.closure.proofs.rounds.pass.Given as goal

abbrev pub invariant-loop-i : goal.invariant-loop-i
invariant-loop-i l = PassTo l.rules l.on l.own l.mem l.initial.rows l.rows l.added l.i × Within (bits l.rows) (level l.lo l.hi)
