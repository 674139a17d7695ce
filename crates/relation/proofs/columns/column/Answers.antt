use mathlib.Core.Path.{refl}
use borrow.Author.Tests.{eqb-true, not-false}
use Rattle.word.specs.laws.Bools.{or-neither}
use Rattle.rules.specs.laws.Ruled.{row_same, parts_same}
use Rattle.relation.proofs.columns.column.Goals as goal

pub returns-in-Entity : goal.returns-in-Entity
returns-in-Entity c = rw c.in-Entity.is (c.entity_column.ensures _ _ c.requires.2)

pub rule_column-requires : goal.rule_column-requires
rule_column-requires c = let ruled = c.requires.1.1 in
    (c.requires.0, refl, (c.requires.1.0, c.args.rules.now.part, ruled), c.asked_parts.ensures _ ruled.part, c.requires.2)

pub rule_column-requires-2 : goal.rule_column-requires-2
rule_column-requires-2 c = let P = c.args.pool.now in
    let X = c.args.rules.now in
    let ruled = c.requires.1.1 in
    let own = or-neither _ c.has_new_row.result c.if-rules-has_new_row.false in (
      c.requires.0,
      eqb-true X.words 1 (not-false _ own.0),
      (c.requires.1.0, X.part, ruled),
      parts_same P c.args.e (row_same P c.args.e (c.has_new_row.ensures own.1)) P.count X.part ruled.part,
      c.requires.2,
    )
