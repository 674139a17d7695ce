use native.Mathlib.Omega.{arith}
use Rattle.rt0.specs.laws.Find.{missed_more}
use Rattle.graph.specs.laws.Find.{node_at_lem, node-none}
use Rattle.graph.proofs.Nodes.find.Goals as goal

pub returns-then-is_node : goal.returns-then-is_node
returns-then-is_node c state = let x = c.args.x in
    node_at_lem _ _ _ _ (c.loop-i.invariant x c.raw_of-raw.ensures state) c.loop-i-test.true (c.is_node.ensures x c.raw_of-raw.ensures)
    c.if-is_node.true

pub loop-i-preserved : goal.loop-i-preserved
loop-i-preserved c x h state = missed_more (c.loop-i.invariant x h state) (c.is_node.ensures x h) c.if-is_node.false

pub returns : goal.returns
returns c state = node-none _ _ _ _ (c.loop-i.invariant c.args.x c.raw_of-raw.ensures state) (omega arith) (omega arith)
