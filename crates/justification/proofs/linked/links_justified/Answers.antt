use mathlib.Core.Path.{ap}
use mathlib.Core.Bool.{not}
use native.Mathlib.Omega.{arith}
use Rattle.states.specs.laws.Filled.{needs-beyond}
use Rattle.justification.specs.laws.Linked.{none-linking, monitoring-start, says-so-far, monitoring-stop, monitoring-next, monitoring-done, edge-inside}
use Rattle.justification.proofs.linked.links_justified.Goals as goal

pub returns-then-not-has_linking : goal.returns-then-not-has_linking
returns-then-not-has_linking c = none-linking _ c.args.edges.now c.has_linking.ensures (ap not c.if-not-has_linking.true)

pub new-settling-requires : goal.new-settling-requires
new-settling-requires c = (c.requires.0, needs-beyond c.args.nodes.now _ (c.needs-need.ensures c.args.nodes.now))

pub loop-j-init : goal.loop-j-init
loop-j-init c =
    let start = c.new-settling.ensures _ _ (c.links-links.ensures.joined c.args.nodes.now).slots in
    monitoring-start _ _ _ _ _ start.0 start.1

pub is_monitored_if-requires : goal.is_monitored_if-requires
is_monitored_if-requires c = let inside = edge-inside _ _ c.requires.3 c.loop-j-test.true (c.edge.ensures _ c.loop-j-test.true) in (
  c.requires.0,
  omega arith,
  inside.0,
  inside.1,
  says-so-far _ _ _ _ _ c.loop-j.invariant c.requires.2 (c.links-links.ensures.joined c.args.nodes.now) (c.needs-need.ensures c.args.nodes.now),
)

pub returns-then-not-is_monitored_if : goal.returns-then-not-is_monitored_if
returns-then-not-is_monitored_if c =
    monitoring-stop _ _ _ _ _ c.loop-j.invariant c.loop-j-test.true (c.edge.ensures _ c.loop-j-test.true)
    c.is_monitored_if.ensures (ap not c.if-not-is_monitored_if.true)

pub insert-requires : goal.insert-requires
insert-requires c = (omega arith, c.loop-j.invariant.chained, c.loop-j.invariant.done)

pub loop-j-preserved : goal.loop-j-preserved
loop-j-preserved c =
    monitoring-next _ _ _ _ _ c.loop-j.invariant c.loop-j-test.true (c.edge.ensures _ c.loop-j-test.true)
    c.is_monitored_if.ensures (ap not c.if-not-is_monitored_if.false) c.insert.ensures.0 c.insert.ensures.1

pub returns : goal.returns
returns c = monitoring-done _ _ _ _ _ c.loop-j.invariant c.loop-j-test.false
