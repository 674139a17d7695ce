use Rattle.tables.specs.Public.{less_direct}
use Rattle.sending.specs.laws.Picked.{picked_all}
use Rattle.sending.proofs.prepared.visible_of.Goals as goal

pub returns : goal.returns
unfolding less_direct
returns c = picked_all _ _ c.loop-i.invariant c.loop-i-test.false
