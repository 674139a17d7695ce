use native.Mathlib.Omega.{arith}
use Rattle.rules.specs.laws.Columns.{has_link_in}
use Rattle.rules.specs.laws.Search.{found_at, not_at, nowhere}
use Rattle.rules.proofs.linking.has_links.Goals as goal

pub returns-then-has_link : goal.returns-then-has_link
returns-then-has_link c = found_at {n = c.args.pool.now.count} (has_link_in c.args.pool.now.kinds) c.loop-i.i (omega arith) c.has_link.ensures c.if-has_link.true

pub loop-i-preserved : goal.loop-i-preserved
loop-i-preserved c = not_at (has_link_in c.args.pool.now.kinds) c.loop-i.i c.loop-i.invariant c.has_link.ensures c.if-has_link.false

pub returns : goal.returns
returns c = nowhere {n = c.args.pool.now.count} (has_link_in c.args.pool.now.kinds) c.loop-i.i (omega arith) (omega arith) c.loop-i.invariant
