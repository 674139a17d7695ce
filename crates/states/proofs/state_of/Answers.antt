use native.Mathlib.Omega.{arith}
use Rattle.graph.specs.laws.Graph.{nodes_of, edges_of}
use Rattle.states.specs.laws.Filled.{needs-beyond, ways-beyond}
use Rattle.states.specs.laws.Complete.{StateColumns, satisfied-read, settled-read, state-satisfied, state-complete, state-failed, state-none}
use Rattle.states.proofs.state_of.Goals as goal
use Rattle.states.proofs.state_of.Goals.{After-failed-failed}

-- the columns of satisfied and failed nodes
settled : (c : After-failed-failed)
    → StateColumns (nodes_of c.args.nodes.now) (edges_of c.args.edges.now) c.satisfied-satisfied.result c.failed-failed.result
settled c = let n = c.args.nodes.now in
    settled-read n c.args.edges.now _ _ c.requires.3 (c.links-links.ensures.joined n) _ _ c.requires.4 (c.needs-need.ensures n) (c.ways-way.ensures n)
    (rw c.links-links.ensures.count at c.satisfied-satisfied.ensures) (rw c.links-links.ensures.count at c.failed-failed.ensures)

pub satisfied-satisfied-requires : goal.satisfied-satisfied-requires
satisfied-satisfied-requires c = let n = c.args.nodes.now in
    (c.requires.1, omega arith, (c.links-links.ensures.joined n).slots, needs-beyond n _ (c.needs-need.ensures n))

pub returns-then-satisfied-i-eq1 : goal.returns-then-satisfied-i-eq1
returns-then-satisfied-i-eq1 c = let n = c.args.nodes.now in
    state-satisfied (nodes_of n) (edges_of c.args.edges.now) c.args.i c.satisfied-satisfied.result
    (satisfied-read n c.args.edges.now _ _ c.requires.3 (c.links-links.ensures.joined n) c.satisfied-satisfied.result (c.needs-need.ensures n)
    (rw c.links-links.ensures.count at c.satisfied-satisfied.ensures)) c.if-satisfied-i-eq1.true

pub failed-failed-requires : goal.failed-failed-requires
failed-failed-requires c = let n = c.args.nodes.now in
    (c.requires.1, omega arith, (c.links-links.ensures.joined n).slots, ways-beyond n _ (c.ways-way.ensures n))

pub returns-then-is_complete : goal.returns-then-is_complete
returns-then-is_complete c = let s = settled c.before.before.before in
    state-complete s c.args.i (c.is_complete.ensures c.args.nodes.now s) c.if-is_complete.true

pub returns-then-failed-i-eq1 : goal.returns-then-failed-i-eq1
returns-then-failed-i-eq1 c = let s = settled c.before.before.before.before in
    state-failed s c.args.i (c.is_complete.ensures c.args.nodes.now s) c.if-satisfied-i-eq1.false c.if-is_complete.false c.if-failed-i-eq1.true

pub returns : goal.returns
returns c = let s = settled c.before.before.before.before in
    state-none s c.args.i (c.is_complete.ensures c.args.nodes.now s) c.if-satisfied-i-eq1.false c.if-is_complete.false c.if-failed-i-eq1.false
