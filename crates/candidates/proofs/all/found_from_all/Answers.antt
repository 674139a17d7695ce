use native.Mathlib.Omega.{arith}
use mathlib.Core.Path.{refl}
use borrow.Author.Tests.{eq-eqb, ne_eqb}
use Rattle.candidates.specs.laws.Skipped.{skipped-start, skipped-next}
use Rattle.candidates.specs.laws.Collected.{collected-start, collected-skip, collected-next, collected-count}
use Rattle.candidates.proofs.all.found_from_all.Goals as goal
use Rattle.candidates.proofs.all.found_from_all.Goals.{then-flags-k-eq1, else-flags-k-eq1}

pub loop-k-init : goal.loop-k-init
loop-k-init c = collected-start _ _ _ _ _

pub loop-k-preserved : goal.loop-k-preserved
loop-k-preserved c = elim c.if-flags-k-eq1.branch [
  | then-flags-k-eq1 w ↦ rw w.all-is
      (collected-next _ _ _ _ _ c.loop-k.invariant (eq-eqb _ 1 w.if-flags-k-eq1.true) w.body.ensures w.add_found.ensures)
  | else-flags-k-eq1 w ↦ rw w.all-is (collected-skip _ _ _ _ _ {n = c.args.pool.now.count} c.loop-k.invariant
      (skipped-next _ (skipped-start _ (omega arith)) (omega arith) refl (ne_eqb _ 1 w.if-flags-k-eq1.false)))
]

pub returns : goal.returns
returns c = collected-count _ _ _ _ _ c.loop-k.invariant (omega arith) (omega arith)
