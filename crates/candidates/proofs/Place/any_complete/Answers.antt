use native.Mathlib.Omega.{arith}
use mathlib.Core.Path.{refl, sym, ◌∙◌}
use Rattle.rt0.specs.laws.Find.{missed_more, any_at, any_none}
use Rattle.candidates.specs.laws.Links.{complete-skip, complete-goal, child-inside}
use Rattle.candidates.proofs.Place.any_complete.Goals as goal
use Rattle.candidates.proofs.Place.any_complete.Goals.{else-is_monitor-via-then-is_monitor+else-is_complete, else-is_monitor-via-else-is_monitor}

pub is_complete-requires : goal.is_complete-requires
is_complete-requires c = let n = c.args.self.now.negotiation.now in (
  child-inside n.nodes n.edges c.requires.1 c.loop-j.j (omega arith) c.wide.ensures,
  c.requires.0.0,
  c.requires.0.1,
)

pub returns-then-is_complete : goal.returns-then-is_complete
returns-then-is_complete c = let n = c.args.self.now.negotiation.now in
    any_at n.edges.count c.loop-j.invariant (omega arith)
    (complete-goal _ _ _ _ (sym c.is_monitor.ensures ∙ c.if-is_monitor.true) c.wide.ensures
    (c.is_complete.ensures n.nodes c.requires.2)) c.if-is_complete.true

pub loop-j-preserved : goal.loop-j-preserved
loop-j-preserved c = elim c.else-is_monitor.branch [
  | else-is_monitor-via-then-is_monitor+else-is_complete w ↦ missed_more c.loop-j.invariant
      (complete-goal _ _ _ _ (sym c.is_monitor.ensures ∙ w.if-is_monitor.true) w.wide.ensures
      (w.is_complete.ensures c.args.self.now.negotiation.now.nodes c.requires.2)) w.if-is_complete.false
  | else-is_monitor-via-else-is_monitor w ↦ missed_more c.loop-j.invariant
      (sym (complete-skip _ _ _ _ (sym c.is_monitor.ensures ∙ w.if-is_monitor.false))) refl
]

pub returns : goal.returns
returns c = any_none c.args.self.now.negotiation.now.edges.count c.loop-j.invariant (omega arith)
