use mathlib.Core.Path.{ap, refl, sym, subst}
use mathlib.Core.Bool.{not}
use native.Mathlib.Omega.{arith}
use Rattle.tables.specs.laws.Tables.{tables_of}
use Rattle.graph.specs.laws.Columns.{nodes-length}
use Rattle.negotiation.specs.laws.State.{state_of}
use Rattle.negotiation.specs.laws.Within.{within-few}
use Rattle.moves.specs.Rules.{end_in}
use Rattle.candidates.specs.declared.LinkReach.{LinkReach}
use Rattle.candidates.specs.laws.Reach.{Recalls}
use Rattle.choice.specs.laws.Ready.{ready_of}
use Rattle.choice.specs.laws.Next.{nothing-start, nothing-next, nothing-begins, nothing-processed, found_here, found_nothing}
use Rattle.choice.proofs.next.next_choice.Goals as goal
use Rattle.choice.proofs.next.next_choice.Goals.{then-is_unprocessed+else-not-is_nothing, else-is_unprocessed}

pub begins_at-i-requires : goal.begins_at-i-requires
unfolding state_of
begins_at-i-requires c = omega (arith, c.requires.7.stands, nodes-length c.args.n.now.nodes, (within-few _ c.requires.1).0)

pub loop-i-init : goal.loop-i-init
loop-i-init c = let b = nothing-begins (tables_of c.args.own.now.house) c.args.n.now c.requires.7 c.begins_at-i.ensures in
    (b.0, b.1, c.requires.8)

pub bounds-nodes-i : goal.bounds-nodes-i
bounds-nodes-i c = omega (arith, (within-few _ c.requires.1).0)

pub bounds-nodes-i-in-loop-i : goal.bounds-nodes-i-in-loop-i
bounds-nodes-i-in-loop-i c = omega (arith, (within-few _ c.requires.1).0)

pub overflow_cast-node : goal.overflow_cast-node
overflow_cast-node c = omega (arith, (within-few _ c.requires.1).0)

pub node-x-requires : goal.node-x-requires
node-x-requires c = omega (arith, (within-few _ c.requires.1).0)

pub choice_at-choice-requires : goal.choice_at-choice-requires
choice_at-choice-requires c =
    (ready_of c.requires.0 c.requires.1 c.requires.4 c.requires.5, omega arith, c.requires.6, c.node-x.ensures _ (omega arith), c.visit.ensures.found)

pub returns-then-not-is_nothing : goal.returns-then-not-is_nothing
unfolding end_in state_of
returns-then-not-is_nothing c = record {
  found = found_here (end_in (tables_of c.args.own.now.house) (state_of c.args.n.now)) c.loop-i.invariant.0 (c.node-x.ensures _ (omega arith))
      c.choice_at-choice.ensures c.is_nothing.ensures (ap not c.if-not-is_nothing.true)
      (omega (arith, nodes-length c.args.n.now.nodes)) refl;
  standing = omega arith;
  idle = c.loop-i.invariant.0;
  recalls = c.visit.ensures.recalls;
}

pub loop-i-preserved : goal.loop-i-preserved
unfolding end_in state_of
loop-i-preserved c = (
  elim c.if-is_unprocessed.branch [
    | then-is_unprocessed+else-not-is_nothing w ↦ nothing-next (end_in (tables_of c.args.own.now.house) (state_of c.args.n.now)) c.loop-i.invariant.0
        (w.node-x.ensures _ (omega arith)) w.choice_at-choice.ensures w.is_nothing.ensures (ap not w.if-not-is_nothing.false)
    | else-is_unprocessed w ↦ nothing-processed (tables_of c.args.own.now.house) c.args.n.now c.loop-i.invariant.0 (omega arith)
        c.is_unprocessed.ensures w.if-is_unprocessed.false
  ],
  omega arith,
  elim c.if-is_unprocessed.branch [
    | then-is_unprocessed+else-not-is_nothing w ↦ subst (λ (l : LinkReach). Recalls c.args.own.now l) (sym w.reach-is) w.visit.ensures.recalls
    | else-is_unprocessed w ↦ subst (λ (l : LinkReach). Recalls c.args.own.now l) (sym w.reach-is) c.loop-i.invariant.2
  ],
)

pub returns : goal.returns
unfolding end_in state_of
returns c = record {
  found = found_nothing (end_in (tables_of c.args.own.now.house) (state_of c.args.n.now)) c.loop-i.invariant.0
      (omega (arith, nodes-length c.args.n.now.nodes));
  standing = c.requires.2;
  idle = nothing-start _;
  recalls = c.loop-i.invariant.2;
}
