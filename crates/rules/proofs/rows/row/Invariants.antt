use mathlib.Core.Path.{◌≡◌}
use mathlib.Core.Bool.{false}
use Rattle.expression.specs.declared.Role.{Role}
use Rattle.expression.specs.laws.Key.{KeyOf}
use Rattle.word.specs.laws.Search.{any_to}
use Rattle.rules.specs.laws.Table.{is_head_in}
use Rattle.rules.proofs.rows.row.Given as goal

abbrev pub invariant-loop-j : goal.invariant-loop-j
invariant-loop-j l = (p : Role) → KeyOf p l.key → any_to l.j (is_head_in l.pool.heads p) ≡ false
