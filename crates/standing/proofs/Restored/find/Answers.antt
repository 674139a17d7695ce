use mathlib.Core.Path.{refl, ap, ◌∙◌}
use mathlib.Core.Bool.{not}
use borrow.Author.Tests.{not-true, not-false}
use Rattle.std.proofs.lemmas.Result.{err_from_is_err_and}
use Rattle.negotiation.specs.State.{within}
use Rattle.negotiation.specs.laws.Read.{candidate-within, reading, no-reading}
use Rattle.standing.specs.laws.Standing.{found-standing, refused-standing, restore-outside, restore-tables, restore-unread, restore-damaged, restore-sound, restore-usable}
use Rattle.standing.proofs.Restored.find.Goals as goal

pub returns-then-negotiation-ne-BYTES-clause-found : goal.returns-then-negotiation-ne-BYTES-clause-found
returns-then-negotiation-ne-BYTES-clause-found c = refused-standing _ _ ∙ restore-outside _ _ c.if-negotiation-ne-BYTES.true

pub returns-in_err-fill-clause-found : goal.returns-in_err-fill-clause-found
returns-in_err-fill-clause-found c =
    let p = err_from_is_err_and c.from_residual.result c.from_residual.ensures.1 in
    rw (p.1, p.2) (refused-standing _ _ ∙ restore-tables _ _ c.if-negotiation-ne-BYTES.false c.in_err-fill.ensures)

pub has_bytes-requires : goal.has_bytes-requires
has_bytes-requires c =
    (ap within c.candidate-self.ensures ∙ candidate-within c.args.negotiation.now, c.if-negotiation-ne-BYTES.false)

pub returns-then-not-has_bytes-clause-found : goal.returns-then-not-has_bytes-clause-found
returns-then-not-has_bytes-clause-found c =
    refused-standing _ _ ∙ restore-unread _ _ c.if-negotiation-ne-BYTES.false _ c.in_ok-fill.ensures.0
    (no-reading _ _ _ c.candidate-self.ensures refl c.has_bytes.ensures (not-true _ (ap not c.if-not-has_bytes.true)))

pub judged-requires : goal.judged-requires
judged-requires c = (c.in_ok-fill.ensures.1, ap within c.candidate-self.ensures ∙ candidate-within c.args.negotiation.now)

pub returns-then-not-judged-clause-found : goal.returns-then-not-judged-clause-found
returns-then-not-judged-clause-found c =
    refused-standing _ _ ∙ restore-damaged _ _ c.if-negotiation-ne-BYTES.false _ c.in_ok-fill.ensures.0 _
    (reading _ _ _ c.candidate-self.ensures refl c.has_bytes.ensures (not-false _ (ap not c.if-not-has_bytes.false)))
    c.judged.ensures (ap not c.if-not-judged.true)

pub returns-clause-found : goal.returns-clause-found
returns-clause-found c =
    found-standing _ _ ∙ restore-sound _ _ c.if-negotiation-ne-BYTES.false _ c.in_ok-fill.ensures.0 _
    (reading _ _ _ c.candidate-self.ensures refl c.has_bytes.ensures (not-false _ (ap not c.if-not-has_bytes.false)))
    c.judged.ensures (ap not c.if-not-judged.false)

pub returns-clause-kept : goal.returns-clause-kept
returns-clause-kept c =
    restore-usable _ _ c.if-negotiation-ne-BYTES.false _ c.in_ok-fill.ensures.0 _
    (reading _ _ _ c.candidate-self.ensures refl c.has_bytes.ensures (not-false _ (ap not c.if-not-has_bytes.false)))
    c.judged.ensures (ap not c.if-not-judged.false) c.in_ok-fill.ensures.1
