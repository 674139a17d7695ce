use native.Mathlib.Omega.{arith}
use mathlib.Core.Path.{sym, ◌∙◌}
use borrow.Author.Tests.{eq-eqb, ne_eqb}
use Rattle.candidates.specs.laws.Offers.{folded_start, folded-next, folded-all}
use Rattle.candidates.specs.laws.All.{roles-skip, roles-taken}
use Rattle.candidates.proofs.Place.with_roles.Goals as goal
use Rattle.candidates.proofs.Place.with_roles.Goals.{then-flags-k-eq1, else-flags-k-eq1}

pub loop-k-init : goal.loop-k-init
loop-k-init c H = folded_start _ _

pub loop-k-preserved : goal.loop-k-preserved
loop-k-preserved c H = elim c.if-flags-k-eq1.branch [
  | then-flags-k-eq1 w ↦ folded-next _ _ (c.loop-k.invariant H)
      (w.best-is ∙ roles-taken _ _ _ _ _ _ _ (eq-eqb _ 1 w.if-flags-k-eq1.true) w.body.ensures w.with_role-best.ensures)
  | else-flags-k-eq1 w ↦ folded-next _ _ (c.loop-k.invariant H) (w.best-is ∙ sym (roles-skip _ _ _ _ _ _ (ne_eqb _ 1 w.if-flags-k-eq1.false) _))
]

pub returns : goal.returns
returns c H = folded-all _ _ (c.loop-k.invariant H) (omega arith) (omega arith)
