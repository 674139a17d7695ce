use Rattle.std.proofs.Math.Path.{sym, ap}
use Rattle.std.proofs.Common.{◌∙◌}
use Rattle.tables.specs.Lookup.{is_sensitive}
use Rattle.tables.specs.laws.Tables.{pair_at, pairs_of}
use Rattle.tables.specs.laws.Lookup.{is_of, any_some, other_at, other_none}
use Rattle.tables.proofs.Pairs.other_from.Goals as goal

pub returns-then-same_role : goal.returns-then-same_role
unfolding is_sensitive pairs_of
returns-then-same_role c = record {
  found = λ t.
      sym (any_some (is_of c.args.r) (pair_at c.args.self.now) c.args.self.now.count c.loop-i-test.true
      (c.same_role.ensures ∙ ap (is_of c.args.r) c.pair-p.ensures) c.if-same_role.true);
  first = λ z. other_at c.args.self.now _ (c.loop-i.invariant z) c.loop-i-test.true c.pair-p.ensures c.same_role.ensures c.if-same_role.true;
}

pub returns-clause-first : goal.returns-clause-first
returns-clause-first c = λ z. other_none c.args.self.now _ (c.loop-i.invariant z) c.loop-i-test.false
