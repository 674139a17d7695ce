use mathlib.Core.Path.{◌≡◌}
use mathlib.Core.Bool.{false}
use Rattle.word.specs.laws.Search.{any_to}
use Rattle.relation.specs.laws.Question.{leads_at}
use Rattle.relation.proofs.forms.leads_on.Given as goal

abbrev pub invariant-loop-j : goal.invariant-loop-j
invariant-loop-j l = any_to l.j (leads_at l.pool l.mem l.vals l.z l.r l.m) ≡ false
