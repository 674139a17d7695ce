use Rattle.justification.specs.Justified.{is_solution_for}
use Rattle.expression.specs.declared.Expression.{Expression}
use mathlib.Core.Path.{refl, ◌∙◌, ap}
use Rattle.justification.proofs.laws.Solves.{solves-other, solves-past, solves-not, solves-is}
use Rattle.justification.proofs.monitors.solves_at.Goals as goal

pub returns-then-edges-j : goal.returns-then-edges-j
returns-then-edges-j c o es says = solves-other _ _ _ _ _ _ c.if-edges-j.true

pub returns-then-nodes-c : goal.returns-then-nodes-c
returns-then-nodes-c c o es says = solves-past _ _ _ _ _ _ refl c.if-nodes-c.true

pub returns-then-sat-c-ne1 : goal.returns-then-sat-c-ne1
returns-then-sat-c-ne1 c o es says = solves-not _ _ _ _ _ _ refl says c.if-sat-c-ne1.true

pub returns : goal.returns
returns c o es says =
    solves-is _ _ _ _ _ _ c.if-edges-j.false refl c.if-nodes-c.false says c.if-sat-c-ne1.false
    (c.is_solution_for.ensures ∙ ap (λ (y : Expression). is_solution_for c.args.x c.args.b y) c.expression_at.ensures)
