use native.Mathlib.Omega.{arith}
use Rattle.frontier.specs.laws.QueueLaws.{follow-on}
use Rattle.frontier.proofs.Work.follow.Goals as goal

pub returns : goal.returns
returns c = follow-on _ (λ h. omega arith) c.body.ensures (c.enter_body.ensures _ _)
