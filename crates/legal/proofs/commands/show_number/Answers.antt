use mathlib.Core.Path.{refl, sym, ◌∙◌}
use Rattle.legal.specs.Number.{show_number}
use Rattle.negotiation.specs.laws.State.{state_of}
use Rattle.legal.specs.laws.Number.{first_stops, first_passes, stops, passes, fresh-yes, fresh-no, shown-full, shown-room}
use Rattle.legal.proofs.commands.show_number.Goals as goal

pub returns-then-k-ne0 : goal.returns-then-k-ne0
unfolding show_number state_of
returns-then-k-ne0 c = first_stops _ _ _ c.credential_number-k.ensures c.if-k-ne0.true

pub returns-then-n-eq0 : goal.returns-then-n-eq0
unfolding show_number state_of
returns-then-n-eq0 c = first_passes _ _ _ c.credential_number-k.ensures c.if-k-ne0.false (stops _ _ _ (fresh-yes c.args.n.now c.if-n-eq0.true))

pub returns-then-is_shown : goal.returns-then-is_shown
unfolding show_number state_of
returns-then-is_shown c =
    first_passes _ _ _ c.credential_number-k.ensures c.if-k-ne0.false
    (passes _ _ _ (fresh-no c.args.n.now c.if-n-eq0.false) (stops _ _ _ (sym c.is_shown.ensures ∙ c.if-is_shown.true)))

pub returns-then-n-ge-SHOWN : goal.returns-then-n-ge-SHOWN
unfolding show_number state_of
returns-then-n-ge-SHOWN c =
    first_passes _ _ _ c.credential_number-k.ensures c.if-k-ne0.false
    (passes _ _ _ (fresh-no c.args.n.now c.if-n-eq0.false)
    (passes _ _ _ (sym c.is_shown.ensures ∙ c.if-is_shown.false) (stops _ _ _ (shown-full c.args.n.now c.if-n-ge-SHOWN.true))))

pub returns : goal.returns
unfolding show_number state_of
returns c =
    first_passes _ _ _ c.credential_number-k.ensures c.if-k-ne0.false
    (passes _ _ _ (fresh-no c.args.n.now c.if-n-eq0.false)
    (passes _ _ _ (sym c.is_shown.ensures ∙ c.if-is_shown.false) (passes _ _ _ (shown-room c.args.n.now c.if-n-ge-SHOWN.false) refl)))
