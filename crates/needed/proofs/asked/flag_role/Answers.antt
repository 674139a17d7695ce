use Rattle.needed.proofs.asked.flag_role.Goals as goal

pub loop-i-preserved : goal.loop-i-preserved
loop-i-preserved c = (c.flag_eight.ensures _ c.loop-i.invariant.0, c.loop-i-test.true)

pub returns : goal.returns
returns c = c.flag_from.ensures _ c.loop-i.invariant.0
