use native.Mathlib.Omega.{arith}
use Rattle.states.specs.laws.Filled.{needs-beyond}
use Rattle.legal.specs.laws.Edge.{says_is}
use Rattle.legal.proofs.justify.satisfied_nodes.Goals as goal

pub satisfied-requires : goal.satisfied-requires
satisfied-requires c = let n = c.args.nodes.now in
    (c.requires.0, omega arith, (c.links-x.ensures.joined n).slots, needs-beyond n _ (c.needs-need.ensures n))

pub returns : goal.returns
returns c = let n = c.args.nodes.now in
    says_is n c.args.edges.now _ _ c.requires.2 (c.links-x.ensures.joined n) _ _ (c.needs-need.ensures n)
    (rw c.links-x.ensures.count at c.satisfied.ensures)
