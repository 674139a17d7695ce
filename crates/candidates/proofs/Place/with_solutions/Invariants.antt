use Prim.Native.Nat.{ℕ}
use mathlib.Core.List.{List}
use mathlib.Core.Path.{◌≡◌}
use Rattle.graph.specs.declared.Nodes.{Nodes}
use Rattle.graph.specs.laws.Graph.{nodes_from}
use Rattle.moves.specs.declared.Choice.TheVariants as C
use Rattle.candidates.specs.laws.Place.{done_at}
use Rattle.candidates.specs.laws.Offers.{folded, offer}
use Rattle.candidates.specs.laws.Links.{is_solved, solved_edge}
use Rattle.candidates.proofs.Place.with_solutions.Given as goal

abbrev pub invariant-loop-j : goal.invariant-loop-j
invariant-loop-j l = let N : Nodes = l.self.negotiation.now.nodes in
    (state : List ℕ) → l.best ≡ folded l.j (offer (done_at l.self)
    (is_solved (nodes_from N.count N.kind N.number N.subject N.verifier state) l.self.negotiation.now.edges l.monitors l.sat l.r)
    (solved_edge (nodes_from N.count N.kind N.number N.subject N.verifier state) l.self.negotiation.now.edges l.self.node l.a)) C.Nothing
