use mathlib.Core.Path.{sym, ◌∙◌, ap}
use Rattle.rt0.specs.laws.Pool.{pool_of}
use Rattle.rules.specs.laws.Table.{row_of, row_for}
use Rattle.rules.specs.laws.Columns.{four_rows}
use Rattle.relation.specs.laws.QuestionLaws.{asked-heads, asked-entity, asked-link}
use Rattle.relation.proofs.asked.asked_body.Goals as goal

pub returns-then-old : goal.returns-then-old
returns-then-old c n H q = asked-heads _ c.args.e c.args.i c.args.old q c.if-old.true

pub returns-then-kind-eq1 : goal.returns-then-kind-eq1
returns-then-kind-eq1 c n H q = asked-entity _ c.args.e c.args.i c.args.old q c.if-kind-eq1.true

pub returns-then-kind-eq3 : goal.returns-then-kind-eq3
returns-then-kind-eq3 c n H q = asked-link _ c.args.e c.args.i c.args.old q c.if-kind-eq3.true

pub returns : goal.returns
returns c n H q = let P = pool_of n H c.args.pool.now.kinds c.args.pool.now.numbers in
    c.asked_rows.ensures P (q ∙ ap (four_rows (row_of P)) (sym c.body.ensures)) ∙ ap (four_rows (row_for P c.args.e)) c.body.ensures
