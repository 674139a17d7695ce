use mathlib.Core.Path.{sym, ap, ◌∙◌}
use mathlib.Core.Bool.{not}
use Prim.Native.Nat.{ℕ, ◌+◌, ◌<◌}
use native.Mathlib.Omega.{arith}
use borrow.Author.Tests.{not-false}
use Rattle.damage.specs.laws.Edges.{edge-unplaced, edge-unformed, edge-new, placed-inside}
use Rattle.damage.proofs.edges.edge_fits.Goals as goal

below : (j : ℕ) → j < j + 1
below j = omega arith

pub returns-then-not-placed : goal.returns-then-not-placed
returns-then-not-placed c = edge-unplaced _ _ _ _ c.requires.2 (below c.args.j) (c.edge-e.ensures _ (below c.args.j)) c.placed.ensures (ap not c.if-not-placed.true)

pub formed-requires : goal.formed-requires
formed-requires c = let inside = placed-inside _ _ _ c.requires.3 (sym c.placed.ensures ∙ not-false _ (ap not c.if-not-placed.false)) in
    (omega (arith, inside.0, c.requires.0), omega (arith, inside.1, c.requires.0))

pub returns-then-not-formed : goal.returns-then-not-formed
returns-then-not-formed c = let inside = placed-inside _ _ _ c.requires.3 (sym c.placed.ensures ∙ not-false _ (ap not c.if-not-placed.false)) in
    edge-unformed _ _ _ _ c.requires.2 (below c.args.j) (c.edge-e.ensures _ (below c.args.j)) c.placed.ensures (ap not c.if-not-placed.false)
    (c.formed.ensures _ inside.0 inside.1) (ap not c.if-not-formed.true)

pub returns : goal.returns
returns c = let inside = placed-inside _ _ _ c.requires.3 (sym c.placed.ensures ∙ not-false _ (ap not c.if-not-placed.false)) in
    edge-new _ _ _ _ c.requires.2 (below c.args.j) (c.edge-e.ensures _ (below c.args.j)) c.placed.ensures (ap not c.if-not-placed.false)
    (c.formed.ensures _ inside.0 inside.1) (ap not c.if-not-formed.false) c.has.ensures
