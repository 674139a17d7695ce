use Rattle.rt0.specs.laws.Find.{any_at, any_none}
use Rattle.graph.specs.laws.Graph.{edges_of}
use Rattle.states.proofs.has_open.Goals as goal

pub returns-then-is_open : goal.returns-then-is_open
unfolding edges_of
returns-then-is_open c = any_at _ c.loop-j.invariant c.loop-j-test.true c.is_open.ensures c.if-is_open.true

pub returns : goal.returns
unfolding edges_of
returns c = any_none _ c.loop-j.invariant c.loop-j-test.false
