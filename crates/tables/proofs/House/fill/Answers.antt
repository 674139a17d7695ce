use Rattle.std.proofs.Common.{arith, ap}
use Rattle.std.proofs.Math.Bool.{not}
use Rattle.std.proofs.lemmas.Result.{err_from_is_err_and}
use Rattle.tables.specs.laws.Tables.{tables_of}
use Rattle.tables.specs.laws.Groups.{names, credentials_of, pairs}
use Rattle.tables.specs.laws.NamesReading.{names-few}
use Rattle.tables.specs.laws.StoredReading.{stored-few}
use Rattle.tables.specs.laws.PairsReading.{pairs-few}
use Rattle.tables.specs.laws.DecodingLaws.{empty-pairs, names-unread, issuer-unread, subject-unread, sensitive-unread}
use Rattle.tables.specs.laws.DecodingLaws.{tables-outside, some_bytes, tables-refused, tables-own}
use Rattle.tables.specs.laws.DecodingParts.{names-wrong, names-come, issuer-wrong, issuer-come, subject-wrong, subject-come}
use Rattle.tables.specs.laws.DecodingParts.{sensitive-wrong, sensitive-come, access-wrong, access-come, filled}
use Rattle.tables.proofs.House.fill.Goals as goal

pub returns-then-not-sized : goal.returns-then-not-sized
returns-then-not-sized c = tables-outside _ c.sized.ensures (ap not c.if-not-sized.true)

pub own_of-requires : goal.own_of-requires
own_of-requires c = some_bytes c.args.s.now c.sized.ensures (ap not c.if-not-sized.false)

pub returns-in_err-self : goal.returns-in_err-self
returns-in_err-self c =
    let e = err_from_is_err_and c.from_residual.result c.from_residual.ensures.1 in
    rw (e.1, e.2) (tables-refused _ c.sized.ensures (ap not c.if-not-sized.false) c.in_err-self.ensures)

pub read_names-requires : goal.read_names-requires
read_names-requires c = names-unread c.args.self.now c.requires

pub returns-in_err-at : goal.returns-in_err-at
returns-in_err-at c =
    let a = tables-own _ c.sized.ensures (ap not c.if-not-sized.false) c.in_ok-self.ensures in
    let e = err_from_is_err_and c.from_residual-in_err-at.result c.from_residual-in_err-at.ensures.1 in
    rw (e.1, e.2) (names-wrong a c.read_names.new.names c.in_err-at.ensures)

pub read_stored-requires : goal.read_stored-requires
unfolding names
read_stored-requires c = (
  names-few c.read_names.new.names c.in_ok-at.ensures.gone.few,
  c.in_ok-at.ensures.ascending,
  issuer-unread c.args.self.now c.requires,
)

pub returns-in_err-at-2 : goal.returns-in_err-at-2
returns-in_err-at-2 c =
    let a = tables-own _ c.sized.ensures (ap not c.if-not-sized.false) c.in_ok-self.ensures in
    let n = names-come a c.read_names.new.names c.in_ok-at.ensures in
    let e = err_from_is_err_and c.from_residual-in_err-at-2.result c.from_residual-in_err-at-2.ensures.1 in
    rw (e.1, e.2) (issuer-wrong _ n c.read_stored.new.pool c.in_err-at-2.ensures)

pub read_stored-requires-2 : goal.read_stored-requires-2
unfolding names
read_stored-requires-2 c = (
  names-few c.read_names.new.names c.in_ok-at.ensures.gone.few,
  c.in_ok-at.ensures.ascending,
  subject-unread c.args.self.now c.requires,
)

pub returns-in_err-at-3 : goal.returns-in_err-at-3
returns-in_err-at-3 c =
    let a = tables-own _ c.sized.ensures (ap not c.if-not-sized.false) c.in_ok-self.ensures in
    let n = names-come a c.read_names.new.names c.in_ok-at.ensures in
    let i = issuer-come _ n c.read_stored.new.pool c.in_ok-at-2.ensures in
    let e = err_from_is_err_and c.from_residual-in_err-at-3.result c.from_residual-in_err-at-3.ensures.1 in
    rw (e.1, e.2) (subject-wrong _ _ i c.read_stored-2.new.pool c.in_err-at-3.ensures)

pub read_pairs-requires : goal.read_pairs-requires
unfolding names credentials_of
read_pairs-requires c = (
  record {
    names = names-few c.read_names.new.names c.in_ok-at.ensures.gone.few;
    ascending = c.in_ok-at.ensures.ascending;
    subject = omega (arith, stored-few c.read_stored-2.new.pool c.in_ok-at-3.ensures.few);
    sensitive = empty-pairs _ (sensitive-unread c.args.self.now c.requires);
  },
  c.empty-pairs.ensures,
)

pub returns-in_err-at-4 : goal.returns-in_err-at-4
returns-in_err-at-4 c =
    let a = tables-own _ c.sized.ensures (ap not c.if-not-sized.false) c.in_ok-self.ensures in
    let n = names-come a c.read_names.new.names c.in_ok-at.ensures in
    let i = issuer-come _ n c.read_stored.new.pool c.in_ok-at-2.ensures in
    let j = subject-come _ _ i c.read_stored-2.new.pool c.in_ok-at-3.ensures in
    let e = err_from_is_err_and c.from_residual-in_err-at-4.result c.from_residual-in_err-at-4.ensures.1 in
    rw (e.1, e.2) (sensitive-wrong _ _ _ j _ c.read_pairs.new.pairs c.in_err-at-4.ensures)

pub read_pairs-requires-2 : goal.read_pairs-requires-2
unfolding names credentials_of pairs
read_pairs-requires-2 c = (
  record {
    names = names-few c.read_names.new.names c.in_ok-at.ensures.gone.few;
    ascending = c.in_ok-at.ensures.ascending;
    subject = omega (arith, stored-few c.read_stored-2.new.pool c.in_ok-at-3.ensures.few);
    sensitive = pairs-few c.read_pairs.new.pairs c.in_ok-at-4.ensures.few;
  },
  c.empty-pairs-2.ensures,
)

pub returns-in_err-at-5 : goal.returns-in_err-at-5
returns-in_err-at-5 c =
    let a = tables-own _ c.sized.ensures (ap not c.if-not-sized.false) c.in_ok-self.ensures in
    let n = names-come a c.read_names.new.names c.in_ok-at.ensures in
    let i = issuer-come _ n c.read_stored.new.pool c.in_ok-at-2.ensures in
    let j = subject-come _ _ i c.read_stored-2.new.pool c.in_ok-at-3.ensures in
    let p = sensitive-come _ _ _ j _ c.read_pairs.new.pairs c.in_ok-at-4.ensures in
    let e = err_from_is_err_and c.from_residual-in_err-at-5.result c.from_residual-in_err-at-5.ensures.1 in
    rw (e.1, e.2) (access-wrong _ _ _ _ p c.read_pairs-2.new.pairs c.in_err-at-5.ensures)

pub left_over-requires : goal.left_over-requires
unfolding names credentials_of pairs
left_over-requires c = record {
  names = names-few c.read_names.new.names c.in_ok-at.ensures.gone.few;
  ascending = c.in_ok-at.ensures.ascending;
  subject = omega (arith, stored-few c.read_stored-2.new.pool c.in_ok-at-3.ensures.few);
  sensitive = pairs-few c.read_pairs.new.pairs c.in_ok-at-4.ensures.few;
}

pub returns : goal.returns
unfolding names credentials_of pairs tables_of
returns c =
    let a = tables-own _ c.sized.ensures (ap not c.if-not-sized.false) c.in_ok-self.ensures in
    let n = names-come a c.read_names.new.names c.in_ok-at.ensures in
    let i = issuer-come _ n c.read_stored.new.pool c.in_ok-at-2.ensures in
    let j = subject-come _ _ i c.read_stored-2.new.pool c.in_ok-at-3.ensures in
    let p = sensitive-come _ _ _ j _ c.read_pairs.new.pairs c.in_ok-at-4.ensures in
    let q = access-come _ _ _ _ p c.read_pairs-2.new.pairs c.in_ok-at-5.ensures in
    filled _ _ _ q (record {
      names = names-few c.read_names.new.names c.in_ok-at.ensures.gone.few;
      ascending = c.in_ok-at.ensures.ascending;
      issuer = stored-few c.read_stored.new.pool c.in_ok-at-2.ensures.few;
      subject = stored-few c.read_stored-2.new.pool c.in_ok-at-3.ensures.few;
      sensitive = pairs-few c.read_pairs.new.pairs c.in_ok-at-4.ensures.few;
      access = pairs-few c.read_pairs-2.new.pairs c.in_ok-at-5.ensures.few;
    }) _ c.left_over.ensures
