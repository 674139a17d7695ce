use mathlib.Core.Path.{ap}
use mathlib.Core.Bool.{not}
use Rattle.candidates.specs.laws.Links.{goal-done, goal-edge, goal-stands, link-parts}
use Rattle.candidates.proofs.Place.link_rules.Goals as goal

pub returns-then-not-is_done : goal.returns-then-not-is_done
returns-then-not-is_done c = goal-edge c.child_for-goal.ensures c.is_done.ensures (ap not c.if-not-is_done.true)

pub returns : goal.returns
returns c =
    goal-done (goal-stands _ _ _ c.args.self.now.node c.child_for-goal.ensures c.is_done.ensures (ap not c.if-not-is_done.false)) _ c.monitored-monitors.ensures
    (link-parts (c.with_solutions-best.ensures _) c.any_complete-marks.ensures c.mark_if.ensures c.or_else.ensures)
