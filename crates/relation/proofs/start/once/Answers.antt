use mathlib.Core.Path.{sym, ◌∙◌, ap}
use Rattle.std.proofs.Common.{arith}
use Rattle.std.proofs.lemmas.Grind.{common_steps}
use Rattle.rules.specs.laws.Table.{row_in}
use Rattle.rules.specs.laws.Columns.{first_row}
use Rattle.relation.specs.laws.Relation.{at_once}
use Rattle.relation.proofs.start.once.Goals as goal

pub returns-then-same : goal.returns-then-same
unfolding at_once
returns-then-same c H h = rw (sym c.same.ensures ∙ c.if-same.true)

pub returns-in-Linked : goal.returns-in-Linked
unfolding at_once
returns-in-Linked c H h =
    rw (sym c.same.ensures ∙ c.if-same.false, c.in-Linked.is)
    (c.own.ensures H _ (h ∙ ap (first_row (row_in c.args.pool.now.count H)) c.in-Linked.is))

pub returns-in_default : goal.returns-in_default
unfolding at_once
returns-in_default c H h = rw (sym c.same.ensures ∙ c.if-same.false) (grind (arith, common_steps))
