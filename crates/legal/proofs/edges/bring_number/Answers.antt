use native.Mathlib.Omega.{arith}
use Prim.Native.Nat.{ℕ, ◌<◌}
use mathlib.Core.Path.{◌≡◌, refl, sym, ◌∙◌, ap}
use mathlib.Core.Bool.{◌||◌}
use lib.Dec.{leb}
use lib.ListN.{length}
use Rattle.negotiation.specs.laws.State.{state_of}
use Rattle.graph.specs.Graph.{node_in}
use Rattle.numbers.specs.Sizes.{MOST-NODES, MOST-EDGES}
use Rattle.numbers.specs.Refusals.{PRESENT}
use Rattle.class.specs.laws.Names.{names_of}
use Rattle.legal.specs.Number.{refuse, type_number, bring_wrong, bring_number}
use Rattle.legal.specs.laws.Edge.{added_number}
use Rattle.legal.specs.laws.Number.{first_stops, first_passes, stops, passes, fresh-yes, fresh-no, absent-yes, absent-no, sizes-same}
use borrow.Author.Rules.{rules}
use Rattle.legal.proofs.edges.bring_number.Goals as goal
use Rattle.legal.proofs.edges.bring_number.Goals.{After-bring_wrong, Else-count-wide}

wrong : (c : After-bring_wrong) → c.bring_wrong.result ≡ bring_wrong (state_of c.args.n.now) c.args.b
unfolding state_of
wrong c =
    c.bring_wrong.ensures c.args.n.now.nodes.state _
    (record { header = refl; nodes = refl; parent = c.node-parent.ensures c.args.n.now.nodes.count (omega (arith, c.wide.ensures, c.if-count-wide.false)) })

-- what the rules behind the form say
abbrev behind : After-bring_wrong → ℕ
behind c =
    added_number c.args.side (node_in (state_of c.args.n.now).nodes c.args.b.parent) c.args.justified
    (leb MOST-NODES (length (state_of c.args.n.now).nodes) || leb MOST-EDGES (length (state_of c.args.n.now).edges))

-- no rule before the form refuses the edge
unrefused : (c : After-bring_wrong) {r : ℕ}
    → r ≡ refuse (bring_wrong (state_of c.args.n.now) c.args.b) PRESENT (behind c)
    → r ≡ bring_number (names_of c.args.names.now) c.args.side (state_of c.args.n.now) c.args.b c.args.justified
unfolding bring_number state_of
unrefused c last =
    first_passes _ _ _ (c.type_number-k.ensures ∙ ap type_number c.type_of.ensures) c.if-k-ne0.false
    (passes _ _ _ (fresh-no c.args.n.now c.if-count-eq0.false)
    (passes _ _ _ (absent-no c.args.n.now _ (omega (arith, c.wide.ensures, c.if-count-wide.false))) last))

pub returns-then-k-ne0 : goal.returns-then-k-ne0
unfolding bring_number state_of
returns-then-k-ne0 c = first_stops _ _ _ (c.type_number-k.ensures ∙ ap type_number c.type_of.ensures) c.if-k-ne0.true

pub returns-then-count-eq0 : goal.returns-then-count-eq0
unfolding bring_number state_of
returns-then-count-eq0 c =
    first_passes _ _ _ (c.type_number-k.ensures ∙ ap type_number c.type_of.ensures) c.if-k-ne0.false
    (stops _ _ _ (fresh-yes c.args.n.now c.if-count-eq0.true))

pub returns-then-count-wide : goal.returns-then-count-wide
unfolding bring_number state_of
returns-then-count-wide c =
    first_passes _ _ _ (c.type_number-k.ensures ∙ ap type_number c.type_of.ensures) c.if-k-ne0.false
    (passes _ _ _ (fresh-no c.args.n.now c.if-count-eq0.false)
    (stops _ _ _ (absent-yes c.args.n.now _ (omega (arith, c.wide.ensures, c.if-count-wide.true)))))

pub node-parent-requires : goal.node-parent-requires
node-parent-requires c = omega (arith, c.wide.ensures, c.if-count-wide.false, c.requires.2)

pub bring_wrong-requires : goal.bring_wrong-requires
bring_wrong-requires c = c.requires.2

pub returns-then-bring_wrong : goal.returns-then-bring_wrong
returns-then-bring_wrong c = unrefused c.before (stops _ _ _ (sym (wrong c.before) ∙ c.if-bring_wrong.true))

pub returns : goal.returns
unfolding state_of
returns c = unrefused c.before.before (passes _ _ _ (sym (wrong c.before.before) ∙ c.if-bring_wrong.false)
    (c.added_number.ensures
    ∙ (λ i. added_number c.args.side (c.node-parent.ensures c.args.n.now.nodes.count (omega (arith, c.wide.ensures, c.if-count-wide.false)) i) c.args.justified (sizes-same c.args.n.now i))))
