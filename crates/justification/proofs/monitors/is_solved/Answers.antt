use Rattle.graph.specs.laws.Graph.{edges_from}
use Rattle.justification.specs.laws.Justified.{solved-at, solved-none}
use Rattle.rt0.specs.laws.Find.{missed-start, missed_more}
use Rattle.justification.proofs.monitors.is_solved.Goals as goal

pub loop-j-init : goal.loop-j-init
loop-j-init c o says = missed-start _ _

pub returns-then-solves_at : goal.returns-then-solves_at
returns-then-solves_at c o says =
    solved-at _ (edges_from c.args.m c.args.edges.now.kind c.args.edges.now.parent c.args.edges.now.child) _ _ _ (c.loop-j.invariant o says)
    c.loop-j-test.true (c.solves_at.ensures o _ says) c.if-solves_at.true

pub loop-j-preserved : goal.loop-j-preserved
loop-j-preserved c o says = missed_more (c.loop-j.invariant o says) (c.solves_at.ensures o _ says) c.if-solves_at.false

pub returns : goal.returns
returns c o says =
    solved-none _ (edges_from c.args.m c.args.edges.now.kind c.args.edges.now.parent c.args.edges.now.child) _ _ _ (c.loop-j.invariant o says)
    c.loop-j-test.false
