use mathlib.Core.Path.{refl, ap}
use mathlib.Core.Bool.{not}
use Rattle.damage.specs.laws.Edges.{bringing-none, bringing-stop, bringing-next, bringing-same, bringing-done}
use Rattle.damage.proofs.edges.edges_fit.Goals as goal
use Rattle.damage.proofs.edges.edges_fit.Goals.{then-edges-j, else-edges-j}

pub loop-j-init : goal.loop-j-init
loop-j-init c = bringing-none _ _ _ c.requires.0

pub returns-then-not-edge_fits : goal.returns-then-not-edge_fits
returns-then-not-edge_fits c = bringing-stop _ _ _ c.loop-j.invariant c.loop-j-test.true c.edge_fits.ensures (ap not c.if-not-edge_fits.true)

pub loop-j-preserved : goal.loop-j-preserved
loop-j-preserved c =
    elim c.if-edges-j.branch [
      | then-edges-j w ↦ bringing-next _ _ _ c.loop-j.invariant c.loop-j-test.true c.edge_fits.ensures (ap not c.if-not-edge_fits.false)
          refl w.if-edges-j.true w.b-is
      | else-edges-j w ↦ bringing-same _ _ _ c.loop-j.invariant c.loop-j-test.true c.edge_fits.ensures (ap not c.if-not-edge_fits.false)
          refl w.if-edges-j.false w.b-is
    ]

pub returns : goal.returns
returns c = bringing-done _ _ _ c.loop-j.invariant c.loop-j-test.false
