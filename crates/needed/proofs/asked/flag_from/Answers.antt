use Rattle.needed.specs.laws.Flag.{marked_all}
use Rattle.needed.proofs.asked.flag_from.Goals as goal

pub loop-k-preserved : goal.loop-k-preserved
loop-k-preserved c = λ p k r m. c.flag_head.ensures p k r (c.loop-k.invariant p k r m)

pub returns : goal.returns
returns c = λ r m. marked_all _ c.loop-k-test.false (c.loop-k.invariant c.args.p c.key_of-key.ensures r m)
