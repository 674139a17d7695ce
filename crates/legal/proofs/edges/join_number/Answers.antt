use native.Mathlib.Omega.{arith}
use Prim.Native.Nat.{ℕ, ◌<◌}
use mathlib.Core.Path.{◌≡◌, refl, sym, ◌∙◌}
use lib.Dec.{leb}
use lib.ListN.{length}
use Rattle.negotiation.specs.laws.State.{state_of}
use Rattle.graph.specs.Graph.{node_in}
use Rattle.numbers.specs.Sizes.{MOST-EDGES}
use Rattle.numbers.specs.Refusals.{PRESENT}
use Rattle.legal.specs.Number.{refuse, join_wrong, join_number}
use Rattle.legal.specs.laws.Edge.{added_number}
use Rattle.legal.specs.laws.Number.{stops, passes, fresh-yes, fresh-no, both-present, parent-absent, child-absent, edges-same}
use borrow.Author.Rules.{rules}
use Rattle.legal.proofs.edges.join_number.Goals as goal
use Rattle.legal.proofs.edges.join_number.Goals.{After-join_wrong, Else-count-wide-2}

wrong : (c : After-join_wrong) → c.join_wrong.result ≡ join_wrong (state_of c.args.n.now) c.args.e
unfolding state_of
wrong c =
    c.join_wrong.ensures _
    (record {
      header = refl;
      edges = refl;
      parent = c.node-p.ensures c.args.n.now.nodes.count (omega (arith, c.wide.ensures, c.if-count-wide.false));
      child = c.node-c.ensures c.args.n.now.nodes.count (omega (arith, c.wide-2.ensures, c.if-count-wide-2.false));
    })

-- what the rules behind the form say
abbrev behind : After-join_wrong → ℕ
behind c =
    added_number c.args.side (node_in (state_of c.args.n.now).nodes c.args.e.parent) c.args.justified
    (leb MOST-EDGES (length (state_of c.args.n.now).edges))

-- no rule before the form refuses the edge
unrefused : (c : After-join_wrong) {r : ℕ}
    → r ≡ refuse (join_wrong (state_of c.args.n.now) c.args.e) PRESENT (behind c)
    → r ≡ join_number c.args.side (state_of c.args.n.now) c.args.e c.args.justified
unfolding join_number state_of
unrefused c last =
    passes _ _ _ (fresh-no c.args.n.now c.if-count-eq0.false)
    (passes _ _ _ (both-present c.args.n.now _ _ (omega (arith, c.wide.ensures, c.if-count-wide.false)) (omega (arith, c.wide-2.ensures, c.if-count-wide-2.false))) last)

pub returns-then-count-eq0 : goal.returns-then-count-eq0
unfolding join_number state_of
returns-then-count-eq0 c = stops _ _ _ (fresh-yes c.args.n.now c.if-count-eq0.true)

pub returns-then-count-wide : goal.returns-then-count-wide
unfolding join_number state_of
returns-then-count-wide c =
    passes _ _ _ (fresh-no c.args.n.now c.if-count-eq0.false)
    (stops _ _ _ (parent-absent c.args.n.now _ _ (omega (arith, c.wide.ensures, c.if-count-wide.true))))

pub returns-then-count-wide-2 : goal.returns-then-count-wide-2
unfolding join_number state_of
returns-then-count-wide-2 c =
    passes _ _ _ (fresh-no c.args.n.now c.if-count-eq0.false)
    (stops _ _ _ (child-absent c.args.n.now _ _
    (omega (arith, c.wide.ensures, c.if-count-wide.false)) (omega (arith, c.wide-2.ensures, c.if-count-wide-2.true))))

pub node-p-requires : goal.node-p-requires
node-p-requires c = omega (arith, c.wide.ensures, c.if-count-wide.false, c.requires.0)

pub node-c-requires : goal.node-c-requires
node-c-requires c = omega (arith, c.wide-2.ensures, c.if-count-wide-2.false, c.requires.0)

pub join_wrong-requires : goal.join_wrong-requires
join_wrong-requires c = c.requires.1

pub returns-then-join_wrong : goal.returns-then-join_wrong
returns-then-join_wrong c = unrefused c.before (stops _ _ _ (sym (wrong c.before) ∙ c.if-join_wrong.true))

pub returns : goal.returns
unfolding state_of
returns c = unrefused c.before.before (passes _ _ _ (sym (wrong c.before.before) ∙ c.if-join_wrong.false)
    (c.added_number.ensures
    ∙ (λ i. added_number c.args.side (c.node-p.ensures c.args.n.now.nodes.count (omega (arith, c.wide.ensures, c.if-count-wide.false)) i) c.args.justified (edges-same c.args.n.now i))))
