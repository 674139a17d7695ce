use native.Mathlib.Omega.{arith}
use Rattle.states.specs.laws.Filled.{needs-beyond, ways-beyond}
use Rattle.states.specs.laws.Complete.{settled-read}
use Rattle.states.proofs.node_states.Goals as goal

pub satisfied-requires : goal.satisfied-requires
satisfied-requires c = let n = c.args.nodes.now in
    (c.requires.0, omega arith, (c.links-links.ensures.joined n).slots, needs-beyond n _ (c.needs-need.ensures n))

pub failed-requires : goal.failed-requires
failed-requires c = let n = c.args.nodes.now in
    (c.requires.0, omega arith, (c.links-links.ensures.joined n).slots, ways-beyond n _ (c.ways-way.ensures n))

pub returns : goal.returns
returns c = let n = c.args.nodes.now in
    settled-read n c.args.edges.now _ _ c.requires.2 (c.links-links.ensures.joined n) _ _ c.requires.3 (c.needs-need.ensures n) (c.ways-way.ensures n)
    (rw c.links-links.ensures.count at c.satisfied.ensures) (rw c.links-links.ensures.count at c.failed.ensures)
