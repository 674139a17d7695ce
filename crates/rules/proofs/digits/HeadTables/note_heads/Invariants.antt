use Rattle.rules.specs.laws.Digits.{HeadsIn}
use Rattle.rules.proofs.digits.HeadTables.note_heads.Given as goal

abbrev pub invariant-loop-j : goal.invariant-loop-j
invariant-loop-j l = HeadsIn l.pool.heads l.j l.self.entity l.self.name
