use Rattle.graph.specs.laws.Graph.{edges_from}
use Rattle.rt0.specs.laws.Find.{missed-start, missed_more}
use Rattle.justification.specs.laws.Justified.{linked-at, linked-none}
use Rattle.justification.proofs.monitors.is_monitored_for.Goals as goal

pub loop-j-init : goal.loop-j-init
loop-j-init c o says = missed-start _ _

pub returns-then-monitors_at : goal.returns-then-monitors_at
returns-then-monitors_at c o says =
    linked-at _ (edges_from c.args.m c.args.edges.now.kind c.args.edges.now.parent c.args.edges.now.child) _ _ _ (c.loop-j.invariant o says)
    c.loop-j-test.true (c.monitors_at.ensures o says) c.if-monitors_at.true

pub loop-j-preserved : goal.loop-j-preserved
loop-j-preserved c o says = missed_more (c.loop-j.invariant o says) (c.monitors_at.ensures o says) c.if-monitors_at.false

pub returns : goal.returns
returns c o says =
    linked-none _ (edges_from c.args.m c.args.edges.now.kind c.args.edges.now.parent c.args.edges.now.child) _ _ _ (c.loop-j.invariant o says)
    c.loop-j-test.false
