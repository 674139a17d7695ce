use mathlib.Core.Path.{refl, sym, ◌∙◌}
use native.Mathlib.Omega.{arith}
use Rattle.std.specs.Prelude.{Ok, Err}
use Rattle.negotiation.specs.laws.Within.{within-few}
use Rattle.damage.specs.laws.Damage.{held-nodes, held-edges}
use Rattle.standing.specs.laws.Standing.{found-standing, refused-standing}
use Rattle.report.specs.laws.Report.{report-refused, report-absent, report-node, held-counts}
use Rattle.report.proofs.report.Goals as goal

pub returns-in-Err : goal.returns-in-Err
returns-in-Err c = report-refused _ _ _ (Err _) (sym (refused-standing _ _) ∙ c.in-Err.ensures.found) refl

pub returns-then-r-i : goal.returns-then-r-i
returns-then-r-i c =
    report-absent _ _ _ (Ok c.find.new.self) (sym (found-standing _ _) ∙ c.in_default.ensures.found) refl refl c.if-r-i.true

pub report_on-requires : goal.report_on-requires
report_on-requires c = let r = c.find.new.self in
    let n = r.negotiation in
    let w = c.in_default.ensures.kept.within-sizes in
    let s = c.in_default.ensures.kept.is-sound in
    let few = within-few n w in
    let counts = held-counts _ n s in (
      omega (arith, c.if-r-i.false),
      few.0,
      few.1,
      few.2,
      counts.0,
      counts.1,
      held-nodes r.house n w s (omega (arith, c.if-r-i.false)),
      held-edges r.house n w s (omega (arith, c.if-r-i.false)),
    )

pub returns : goal.returns
returns c =
    report-node _ _ _ (Ok c.find.new.self) (sym (found-standing _ _) ∙ c.in_default.ensures.found) refl refl c.if-r-i.false
    c.report_on.ensures.0
