use mathlib.Core.Path.{sym, ◌∙◌, ap}
use mathlib.Core.Bool.{Bool, ◌&&◌}
use Rattle.std.specs.Prelude.{ltb}
use Rattle.candidates.specs.laws.Links.{is_monitor, monitoring-start, monitoring-hit, monitoring-miss}
use Rattle.candidates.proofs.Place.monitored.Goals as goal
use Rattle.candidates.proofs.Place.monitored.Goals.{then-is_monitor-c, else-is_monitor-c}

pub loop-j-init : goal.loop-j-init
loop-j-init c = monitoring-start _ _

pub loop-j-preserved : goal.loop-j-preserved
unfolding is_monitor
loop-j-preserved c = elim c.if-is_monitor-c.branch [
  | then-is_monitor-c w ↦ monitoring-hit _ _ c.loop-j.invariant c.wide-c.ensures
      (ap (λ (b : Bool). b && ltb c.wide-c.result 128) (sym c.is_monitor.ensures) ∙ w.if-is_monitor-c.true) w.r-is
  | else-is_monitor-c w ↦ monitoring-miss _ _ c.loop-j.invariant c.wide-c.ensures
      (ap (λ (b : Bool). b && ltb c.wide-c.result 128) (sym c.is_monitor.ensures) ∙ w.if-is_monitor-c.false) w.r-is
]
