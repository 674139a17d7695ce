use Rattle.graph.specs.Processed.{processed_by}
use Rattle.negotiation.specs.laws.State.{state_of}
use native.Mathlib.Omega.{arith}
use mathlib.Core.Path.{refl, sym, ◌∙◌, ap}
use Rattle.legal.specs.Number.{mark_number}
use Rattle.legal.specs.laws.Number.{stops, passes, fresh-yes, fresh-no, absent-yes, absent-no}
use Rattle.legal.proofs.commands.mark_number.Goals as goal

pub returns-then-n-eq0 : goal.returns-then-n-eq0
unfolding mark_number state_of
returns-then-n-eq0 c = stops _ _ _ (fresh-yes c.args.n.now c.if-n-eq0.true)

pub returns-then-n-wide : goal.returns-then-n-wide
unfolding mark_number state_of
returns-then-n-wide c =
    passes _ _ _ (fresh-no c.args.n.now c.if-n-eq0.false)
    (stops _ _ _ (absent-yes c.args.n.now _
    (omega (arith, c.wide.ensures, c.if-n-wide.true))))

pub node-requires : goal.node-requires
node-requires c = omega (arith, c.wide.ensures, c.if-n-wide.false, c.requires)

pub returns-then-is_processed : goal.returns-then-is_processed
unfolding mark_number state_of
returns-then-is_processed c =
    passes _ _ _ (fresh-no c.args.n.now
    c.if-n-eq0.false)
    (passes _ _ _ (absent-no c.args.n.now _
    (omega (arith, c.wide.ensures, c.if-n-wide.false)))
    (stops _ _ _ (ap (processed_by c.args.side)
    (sym (c.node.ensures _ (omega (arith, c.wide.ensures, c.if-n-wide.false)))) ∙ sym c.is_processed.ensures ∙ c.if-is_processed.true)))

pub returns : goal.returns
unfolding mark_number state_of
returns c =
    passes _ _ _ (fresh-no c.args.n.now
    c.if-n-eq0.false)
    (passes _ _ _ (absent-no c.args.n.now _
    (omega (arith, c.wide.ensures, c.if-n-wide.false)))
    (passes _ _ _ (ap (processed_by c.args.side)
    (sym (c.node.ensures _ (omega (arith, c.wide.ensures, c.if-n-wide.false)))) ∙ sym c.is_processed.ensures ∙ c.if-is_processed.false) refl))
