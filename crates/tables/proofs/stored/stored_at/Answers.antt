use Rattle.std.proofs.Common.{arith, sym, ap, ◌∙◌}
use Rattle.std.proofs.Math.Bool.{not}
use borrow.Author.Tests.{not-false}
use Rattle.std.specs.Prelude.{Some, None}
use Rattle.record.specs.Record.{record_at, stored_of}
use Rattle.record.specs.laws.Record.{stored-begun}
use Rattle.tables.specs.laws.StoredReading.{stored-read}
use Rattle.tables.proofs.stored.stored_at.Goals as goal

pub read_credential-requires : goal.read_credential-requires
read_credential-requires c = omega (arith, (stored-begun _ _ _ (sym c.begins_stored.ensures ∙ not-false _ (ap not c.if-not-begins_stored.false))).0)

pub returns-in_default : goal.returns-in_default
returns-in_default c =
    stored-read c.args.subject None (record_at c.args.s.now c.args.at)
    ((stored-begun _ _ _ (sym c.begins_stored.ensures ∙ not-false _ (ap not c.if-not-begins_stored.false))).1
    ∙ ap (stored_of c.args.subject) (sym c.read_credential.ensures ∙ c.in_default.is))

pub returns : goal.returns
returns c =
    stored-read c.args.subject (Some c.in-Some.c) (record_at c.args.s.now c.args.at)
    ((stored-begun _ _ _ (sym c.begins_stored.ensures ∙ not-false _ (ap not c.if-not-begins_stored.false))).1
    ∙ ap (stored_of c.args.subject) (sym c.read_credential.ensures ∙ c.in-Some.is))
