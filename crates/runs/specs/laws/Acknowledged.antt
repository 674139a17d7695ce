-- A role's Ack target is found satisfied exactly where the node of document 01 stands and propagation satisfies it. Assumes nothing.
use Rattle.std.specs.Prelude.{ℕ, ◌≤◌, ◌≡◌, ◌↔◌, ◌&&◌, eqb, ltb, leb, length}
use Rattle.std.proofs.Common.{arith, sym, ◌∙◌, ap, eq-eqb, eqb-true, lt-ltb, ltb-true, leb-true}
use Rattle.std.proofs.Math.Logic.{⊎_elim}
use Rattle.std.proofs.Math.Bool.{true}
use Rattle.expression.specs.declared.Role.{Role}
use Rattle.expression.specs.declared.Expression.{Expression}
use Rattle.expression.specs.declared.Expression.TheVariants as E
use Rattle.expression.specs.Same.{same}
use Rattle.expression.specs.laws.Same.{same-eq, eq-same}
use Rattle.word.specs.laws.Bools.{and_parts, and_both, false-true}
use Rattle.propagation.specs.Flags.{at}
use Rattle.graph.specs.declared.Node.{Node}
use Rattle.graph.specs.Graph.{node_in}
use Rattle.graph.specs.Form.{Formed}
use Rattle.graph.specs.Find.{is_node, find_node}
use Rattle.graph.specs.laws.FindExact.{Absent, Found, find_cases}
use Rattle.graph.specs.Propagated.{satisfied_b}
use Rattle.graph.specs.laws.Propagated.{satisfied-exact}
use Rattle.tables.specs.Tables.{Tables}
use Rattle.negotiation.specs.State.{State, within}
use Rattle.damage.specs.Damage.{sound}
use Rattle.damage.specs.laws.Proved.{sound-graph-formed}
use Rattle.moves.specs.Known.{is_acknowledged}
use Rattle.numbers.specs.Sizes.{MOST-NODES, MOST-EDGES, MOST-SHOWN}
use Rattle.runs.specs.Runs.{AckSatisfied}

-- a node of expression x, verifier v and subject s
record Is (x : Expression) (v s : ℕ) (n : Node) : Type 0 where
  pub verifier : n.verifier ≡ v
  pub subject : n.subject ≡ s
  pub expression : n.expression ≡ x

node-is : (x : Expression) (v s : ℕ) (n : Node) → is_node x v s n ≡ true → Is x v s n
node-is x v s n h =
    let p = and_parts (eqb n.verifier v && eqb n.subject s) (same n.expression x) h in
    let q = and_parts (eqb n.verifier v) (eqb n.subject s) p.0 in
    record { verifier = eqb-true n.verifier v q.0; subject = eqb-true n.subject s q.1; expression = same-eq n.expression x p.1 }

is-node : (x : Expression) (v s : ℕ) (n : Node) → Is x v s n → is_node x v s n ≡ true
is-node x v s n k =
    and_both (eqb n.verifier v && eqb n.subject s) (same n.expression x)
    (and_both (eqb n.verifier v) (eqb n.subject s) (eq-eqb n.verifier v k.verifier) (eq-eqb n.subject s k.subject))
    (eq-same n.expression x k.expression)

most-nodes : (S : State) → within S ≡ true → length S.nodes ≤ 128
unfolding within
most-nodes S w =
    let p = and_parts (leb (length S.nodes) MOST-NODES && leb (length S.edges) MOST-EDGES) (leb (length S.shown) MOST-SHOWN) w in
    leb-true (length S.nodes) MOST-NODES (and_parts (leb (length S.nodes) MOST-NODES) (leb (length S.edges) MOST-EDGES) p.0).0

module _ (S : State) (r : Role) where
  -- the number at which the Ack target is looked for
  abbrev number : ℕ
  number = find_node S.nodes (E.Role r) S.header.side S.header.other

  pub acknowledged-stands : within S ≡ true → is_acknowledged S r ≡ true → AckSatisfied S r
  unfolding is_acknowledged
  acknowledged-stands w h = ⊎_elim absent found (find_cases S.nodes (E.Role r) S.header.side S.header.other)
    where
      parts : (ltb number (length S.nodes) ≡ true) × (at (satisfied_b S.nodes S.edges) number ≡ true)
      parts = and_parts (ltb number (length S.nodes)) (at (satisfied_b S.nodes S.edges) number) h

      absent : Absent S.nodes (E.Role r) S.header.side S.header.other → AckSatisfied S r
      absent a = absurd (omega (arith, a.number, most-nodes S w, ltb-true number (length S.nodes) parts.0))

      found : Found S.nodes (E.Role r) S.header.side S.header.other → AckSatisfied S r
      found f =
          let k = node-is (E.Role r) S.header.side S.header.other (node_in S.nodes number) f.here in
          record {
            node = number;
            stands = f.inside;
            verifier = k.verifier;
            role = k.expression;
            subject = k.subject;
            satisfied = (satisfied-exact S.nodes S.edges number).0 parts.1;
          }

  -- nodes being unique, the one that stands is the one that is found
  pub stands-acknowledged : Formed S.nodes S.edges → AckSatisfied S r → is_acknowledged S r ≡ true
  unfolding is_acknowledged
  stands-acknowledged u t = ⊎_elim absent found (find_cases S.nodes (E.Role r) S.header.side S.header.other)
    where
      passes : is_node (E.Role r) S.header.side S.header.other (node_in S.nodes t.node) ≡ true
      passes =
          is-node (E.Role r) S.header.side S.header.other (node_in S.nodes t.node)
          (record { verifier = t.verifier; subject = t.subject; expression = t.role })

      absent : Absent S.nodes (E.Role r) S.header.side S.header.other → is_acknowledged S r ≡ true
      absent a = absurd (false-true (sym (a.none t.node t.stands) ∙ passes))

      found : Found S.nodes (E.Role r) S.header.side S.header.other → is_acknowledged S r ≡ true
      found f =
          let k = node-is (E.Role r) S.header.side S.header.other (node_in S.nodes number) f.here in
          let e : t.node ≡ number =
          u.unique t.node number t.stands f.inside (t.role ∙ sym k.expression) (t.verifier ∙ sym k.verifier)
          (t.subject ∙ sym k.subject) in
          and_both (ltb number (length S.nodes)) (at (satisfied_b S.nodes S.edges) number) (lt-ltb number (length S.nodes) f.inside)
          (ap (at (satisfied_b S.nodes S.edges)) (sym e) ∙ (satisfied-exact S.nodes S.edges t.node).1 t.satisfied)

-- what the rules of the reply look up, in a negotiation that a call finds, is document 01's Ack target
pub acknowledged-exact : (T : Tables) (S : State) (r : Role) → within S ≡ true → sound T S ≡ true → (is_acknowledged S r ≡ true) ↔ AckSatisfied S r
acknowledged-exact T S r w h = (acknowledged-stands S r w, stands-acknowledged S r (sound-graph-formed T S h))
