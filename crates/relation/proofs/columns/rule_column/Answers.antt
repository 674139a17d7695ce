use native.Mathlib.Omega.{arith}
use mathlib.Core.Path.{refl}
use Rattle.relation.specs.laws.Reached.{column-of}
use Rattle.relation.proofs.columns.rule_column.Goals as goal

pub close-requires : goal.close-requires
close-requires c = let ruled = c.requires.2.2 in record {
  count = omega (arith, ruled.count, c.requires.0);
  words = omega (arith, c.requires.1);
  head = ruled.head.under;
  part = c.requires.3.under;
  first = ruled.first.under;
  src = ruled.links.under;
}

pub returns : goal.returns
returns c =
    column-of c.args.pool.now c.args.on.now c.requires.0 c.args.mem.now c.requires.4 c.args.e _ c.args.rules.now c.requires.2.2
    refl c.requires.1 refl refl refl refl c.requires.3 _ _ c.asked-todo.ensures c.close.ensures
