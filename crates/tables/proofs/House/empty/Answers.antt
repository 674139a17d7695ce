use Rattle.std.proofs.Common.{arith, []}
use Rattle.tables.specs.laws.Tables.{tables_of}
use Rattle.tables.specs.laws.DecodingLaws.{empty-pool, empty-pairs}
use Rattle.class.specs.laws.Names.{names_of}
use Rattle.tables.proofs.House.empty.Goals as goal

pub returns-clause-housed : goal.returns-clause-housed
returns-clause-housed c = record {
  names = omega arith;
  ascending = record { less = λ i j l k. absurd (omega arith) };
  issuer = empty-pool _ c.empty.ensures;
  subject = empty-pool _ c.empty-2.ensures;
  sensitive = empty-pairs _ c.empty-3.ensures;
  access = empty-pairs _ c.empty-4.ensures;
}

pub returns-clause-unread : goal.returns-clause-unread
unfolding tables_of names_of
returns-clause-unread c = λ i. record {
  own = 0;
  names = [];
  issuer_stored = c.empty.ensures i;
  subject_stored = c.empty-2.ensures i;
  sensitive = c.empty-3.ensures i;
  access = c.empty-4.ensures i;
}
