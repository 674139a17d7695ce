use mathlib.Core.Path.{◌≡◌}
use mathlib.Core.Bool.{false}
use Rattle.word.specs.laws.Search.{any_to}
use Rattle.rules.specs.laws.Columns.{has_link_in}
use Rattle.rules.proofs.linking.has_links.Given as goal

abbrev pub invariant-loop-i : goal.invariant-loop-i
invariant-loop-i l = any_to l.i (has_link_in l.pool.kinds) ≡ false
