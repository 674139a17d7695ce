use mathlib.Core.Bool.{not}
use mathlib.Core.Path.{sym, ◌∙◌, ap}
use borrow.Author.Tests.{not-true}
use Rattle.rules.specs.laws.Table.{row_of}
use Rattle.rules.specs.laws.Columns.{first_row}
use Rattle.rules.specs.laws.Column.{first-none}
use Rattle.rules.proofs.first_at.Goals as goal

pub returns-then-not-has_link : goal.returns-then-not-has_link
returns-then-not-has_link c =
    first-none c.args.pool.now c.args.i (sym c.has_link.ensures ∙ not-true c.has_link.result (ap not c.if-not-has_link.true))

pub returns : goal.returns
returns c = c.first_of.ensures ∙ ap (first_row (row_of c.args.pool.now)) c.body.ensures
