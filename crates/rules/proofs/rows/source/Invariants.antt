use mathlib.Core.Path.{◌≡◌}
use mathlib.Core.Bool.{false}
use Rattle.word.specs.laws.Search.{any_to}
use Rattle.rules.specs.laws.Table.{is_body_in}
use Rattle.rules.proofs.rows.source.Given as goal

abbrev pub invariant-loop-s : goal.invariant-loop-s
invariant-loop-s l = any_to l.s (is_body_in l.pool.kinds l.pool.numbers l.b) ≡ false
