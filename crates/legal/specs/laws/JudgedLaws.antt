-- The justification of a command, case by case. Assumes nothing.
use Rattle.std.specs.Prelude.{ℕ, ◌≤◌, ◌≡◌, refl, Bool, true, false, not, ◌||◌, List}
use Rattle.std.proofs.Common.{arith, sym, ◌∙◌, ap, eqb-true}
use Rattle.std.proofs.Math.ListN.{get_or-eq_default}
use Rattle.rt0.specs.declared.Pool.{Pool}
use Rattle.rt0.specs.Lists.{any}
use Rattle.word.specs.laws.Bools.{false-true}
use Rattle.rt0.specs.laws.Pool.{credentials}
use Rattle.rt0.specs.Decide.{from? as from_of}
use Rattle.closure.specs.declared.Rules.{Rules}
use Rattle.class.specs.declared.Name.{Name}
use Rattle.graph.specs.declared.Node.{Node}
use Rattle.graph.specs.declared.Edge.{Edge}
use Rattle.graph.specs.declared.Nodes.{Nodes}
use Rattle.graph.specs.laws.Graph.{nodes_of, edges_of}
use Rattle.graph.specs.Graph.{node_in, blank}
use Rattle.graph.specs.laws.Columns.{nodes-length}
use Rattle.justification.specs.Justified.{monitors}
use Rattle.message.specs.declared.NewEdge.{NewEdge}
use Rattle.message.specs.declared.Command.{Command}
use Rattle.message.specs.declared.Command.TheVariants.{Show, Open, Bring, Join, Mark, End}
use Rattle.negotiation.specs.declared.Negotiation.{Negotiation}
use Rattle.negotiation.specs.State.{State}
use Rattle.negotiation.specs.laws.State.{state_of}
use Rattle.legal.specs.declared.Implication.{Implication}
use Rattle.legal.specs.Number.{justified_for, justified_in, legal_by, legal_number}
use Rattle.legal.specs.laws.Number.{by-proved, by-monitored}
use Rattle.legal.specs.laws.Edge.{join-justified}
use Rattle.legal.specs.laws.Judged.{is_implication, is_linking, implication_in, ProvedFor, Proves}

-- past the nodes
pub node-none : (N : Nodes) (i : ℕ) → N.count ≤ i → blank ≡ node_in (nodes_of N) i
node-none N i l = sym (get_or-eq_default (nodes_of N) blank (omega (arith, nodes-length N)))

-- its expression, read from the node
pub monitored-at : (ns : List Node) (es : List Edge) (p b : ℕ) {P : Node} {r : Bool} → P ≡ node_in ns p
    → r ≡ any (monitors ns es P.expression b p) es → r ≡ any (monitors ns es (node_in ns p).expression b p) es
monitored-at ns es p b pe e = e ∙ ap (λ (x : Node). any (monitors ns es x.expression b p) es) pe

-- an implication
module _ (n : Negotiation) (c : Command) where
  pub proves-none : (r : Bool) {i : Bool} → i ≡ is_implication c → not i ≡ true → Proves (state_of n) c r
  proves-none r ie z = record { proves = λ y. absurd (false-true (ap not (sym (ie ∙ y)) ∙ z)) }

  pub proves-asked : (P : Pool) (R : Rules) (rows : List ℕ) {q : Implication} {r : Bool} → ProvedFor c P R rows n.shown
      → q ≡ implication_in (nodes_of n.nodes) c → r ≡ from_of (credentials P) q.parent q.child → Proves (state_of n) c r
  unfolding state_of
  proves-asked P R rows k qe e = record { proves = λ y. e ∙ (λ t. from_of (k.same y t) (qe t).parent (qe t).child) }

-- a linking implication
module _ (n : Negotiation) {r : Bool} where
  pub bring-linked : (b : NewEdge) → is_linking (Bring b) ≡ true
      → r ≡ any (monitors (nodes_of n.nodes) (edges_of n.edges) (node_in (nodes_of n.nodes) b.parent).expression b.subject b.parent)
      (edges_of n.edges) → r ≡ justified_in (state_of n) (Bring b)
  unfolding justified_in justified_for state_of
  bring-linked b h e = by-monitored b.kind _ _ (eqb-true b.kind 4 h) e

  pub join-linked : (e : Edge) {C : Node} → C ≡ node_in (nodes_of n.nodes) e.child → is_linking (Join e) ≡ true
      → r ≡ any (monitors (nodes_of n.nodes) (edges_of n.edges) (node_in (nodes_of n.nodes) e.parent).expression C.subject e.parent)
      (edges_of n.edges) → r ≡ justified_in (state_of n) (Join e)
  unfolding justified_in justified_for state_of
  join-linked e ce h q = by-monitored e.kind _ _ (eqb-true e.kind 4 h) q ∙ join-justified (state_of n) e ce

-- any other command
plain : (S : State) (c : Command) (p : Bool) → Proves S c p → is_linking c ≡ false → (not (is_implication c) || p) ≡ justified_in S c
unfolding justified_in justified_for
plain S (Show c) p h z = refl
plain S (Open o) p h z = refl
plain S (Bring b) p h z = by-proved b.kind _ _ z h.proves
plain S (Join e) p h z = by-proved e.kind _ _ z h.proves ∙ join-justified S e refl
plain S (Mark i) p h z = refl
plain S End p h z = refl

pub plain-justified : (S : State) (c : Command) (p : Bool) {l i : Bool} → Proves S c p → l ≡ is_linking c → l ≡ false → i ≡ is_implication c
    → (not i || p) ≡ justified_in S c
plain-justified S c p h le z ie = ap (λ (b : Bool). not b || p) ie ∙ plain S c p h (sym le ∙ z)

-- a command that is judged with its justification
pub legal-judged : (ns : List Name) (s : ℕ) (S : State) (c : Command) {j : Bool} {r : ℕ} → j ≡ justified_in S c → r ≡ legal_by ns s S c j
    → r ≡ legal_number ns s S c
unfolding legal_number
legal-judged ns s S c je e = e ∙ ap (legal_by ns s S c) je

-- One of the commands

pub justified-for : (S : State) (c k : Command) {r : Bool} → c ≡ k → r ≡ justified_in S k → r ≡ justified_in S c
justified-for S c k h e = e ∙ ap (justified_in S) (sym h)

pub question-for : (ns : List Node) (c k : Command) {r : Implication} → c ≡ k → r ≡ implication_in ns k → r ≡ implication_in ns c
question-for ns c k h e = e ∙ ap (implication_in ns) (sym h)
