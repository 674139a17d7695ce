use native.Mathlib.Omega.{arith}
use mathlib.Core.Path.{sym, ◌∙◌}
use Rattle.candidates.specs.laws.Offers.{folded_start, folded-next, folded-all}
use Rattle.candidates.specs.laws.Links.{solution-room, solved-here, solved-skip}
use Rattle.candidates.proofs.Place.with_solutions.Goals as goal
use Rattle.candidates.proofs.Place.with_solutions.Goals.{then-is_solution, else-is_solution}

pub loop-j-init : goal.loop-j-init
loop-j-init c state = folded_start _ _

pub with_solution-best-requires : goal.with_solution-best-requires
with_solution-best-requires c = (
  omega (arith, solution-room _ _ _ _ _ _ _ (sym c.is_solution.ensures ∙ c.if-is_solution.true) c.wide.ensures),
  c.requires,
)

pub loop-j-preserved : goal.loop-j-preserved
loop-j-preserved c state = elim c.if-is_solution.branch [
  | then-is_solution w ↦ folded-next _ _ (c.loop-j.invariant state) (w.best-is ∙
      solved-here _ _ _ _ _ _ _ _ _ (sym c.is_solution.ensures ∙ w.if-is_solution.true) _ w.wide.ensures (w.with_solution-best.ensures state))
  | else-is_solution w ↦ folded-next _ _ (c.loop-j.invariant state) (w.best-is ∙
      sym (solved-skip _ _ _ _ _ _ _ _ _ (sym c.is_solution.ensures ∙ w.if-is_solution.false) _))
]

pub returns : goal.returns
returns c state = folded-all _ _ (c.loop-j.invariant state) (omega arith) (omega arith)
