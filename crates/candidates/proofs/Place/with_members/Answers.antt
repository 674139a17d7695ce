use native.Mathlib.Omega.{arith}
use mathlib.Core.Path.{sym, ◌∙◌}
use Rattle.candidates.specs.laws.Offers.{folded_start, folded-next, folded-all}
use Rattle.candidates.specs.laws.Members.{is_stopped}
use Rattle.candidates.specs.laws.MembersLaws.{member-here, member-skip}
use Rattle.candidates.proofs.Place.with_members.Goals as goal
use Rattle.candidates.proofs.Place.with_members.Goals.{then-found-k, else-found-k}

pub loop-k-init : goal.loop-k-init
loop-k-init c H = folded_start _ _

pub loop-k-preserved : goal.loop-k-preserved
unfolding is_stopped
loop-k-preserved c H = elim c.if-found-k.branch [
  | then-found-k w ↦ folded-next _ _ (c.loop-k.invariant H)
      (w.best-is ∙ member-here _ _ _ _ _ _ _ _ w.if-found-k.true w.body.ensures w.with_member-best.ensures)
  | else-found-k w ↦ folded-next _ _ (c.loop-k.invariant H) (w.best-is ∙ sym (member-skip _ _ _ _ _ _ _ w.if-found-k.false _))
]

pub returns : goal.returns
returns c H = folded-all _ _ (c.loop-k.invariant H) (omega arith) (omega arith)
