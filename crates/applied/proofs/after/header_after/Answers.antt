use Rattle.applied.specs.laws.After.{header_is}
use Rattle.applied.proofs.after.header_after.Goals as goal

pub returns : goal.returns
returns c = header_is _ _ _ _ _ c.is_stalled.ensures c.end_of.ensures c.idle_of.ensures c.counted.ensures
