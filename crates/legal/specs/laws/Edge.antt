-- Edges, by the tests made one after the other. Assumes nothing.
use Rattle.std.specs.Prelude.{ℕ, ◌≤◌, ◌≡◌, refl, Bool, true, false, ◌&&◌, ◌||◌, eqb}
use Rattle.std.proofs.Common.{sym, ◌∙◌, eq-eqb, ne_eqb}
use Rattle.std.proofs.Math.Path.{ap}
use Rattle.std.proofs.Math.Bool.{not}
use mathlib.Core.List.{List}
use Rattle.std.proofs.lemmas.Bool.{not-true, not-false}
use Rattle.rt0.specs.Lists.{any}
use Rattle.rt0.specs.Decide.{from? as from_of}
use Rattle.propagation.specs.Flags.{at}
use Rattle.propagation.specs.laws.Flags.{flag}
use Rattle.propagation.specs.laws.Satisfied.{graph, satisfied_of}
use Rattle.graph.specs.declared.Node.{Node}
use Rattle.graph.specs.declared.Edge.{Edge}
use Rattle.graph.specs.declared.Nodes.{Nodes}
use Rattle.graph.specs.declared.Edges.{Edges}
use Rattle.graph.specs.laws.Graph.{nodes_of, edges_of}
use Rattle.graph.specs.Graph.{node_in}
use Rattle.graph.specs.Form.{form}
use Rattle.graph.specs.Processed.{processed_by}
use Rattle.graph.specs.Find.{is_node, find_node, has_edge}
use Rattle.states.specs.laws.Brings.{NodesFormed, Joined, Needs}
use Rattle.states.specs.laws.Complete.{satisfied-read}
use Rattle.justification.specs.Justified.{monitors, monitored, monitored_if, implied, implied_if, justified}
use Rattle.justification.specs.laws.Justified.{Says}
use Rattle.message.specs.declared.NewEdge.{NewEdge}
use Rattle.negotiation.specs.declared.Header.{Header}
use Rattle.negotiation.specs.State.{State}
use Rattle.negotiation.specs.Ends.{entity_of}
use Rattle.damage.specs.laws.Records.{found_none}
use Rattle.applied.specs.Step.{child_of}
use Rattle.legal.specs.Number.{refuse, formed_as, join_wrong, bring_wrong, justified_by, justified_for}
use Rattle.numbers.specs.Sizes.{MOST-NODES}
use Rattle.numbers.specs.Refusals.{UNJUSTIFIED, PROCESSED, FULL}

-- the satisfied nodes, by the columns of propagation
pub says_is : (N : Nodes) (E : Edges) (F S : List ℕ) → NodesFormed (nodes_of N) → Joined (nodes_of N) (edges_of E) F S → (M sat : List ℕ) → Needs (nodes_of N) M
    → ((i : ℕ) → flag sat i ≡ at (satisfied_of E.count (graph F S M)) i) → Says (nodes_of N) (edges_of E) sat
says_is N E F S nf jn M sat nd h = record { says = satisfied-read N E F S nf jn sat nd h }

-- Justification

-- of an edge between old nodes
pub join-justified : (S : State) (e : Edge) {C : Node} → C ≡ node_in S.nodes e.child
    → justified_for S e.kind e.parent C.expression C.subject ≡ justified S.shown S.nodes S.edges e
unfolding justified_for justified_by justified implied_if implied monitored_if monitored
join-justified S e h = λ i.
    (not (eqb e.kind 1) || from_of S.shown (node_in S.nodes e.parent).expression (h i).expression)
    && (not (eqb e.kind 4) || any (monitors S.nodes S.edges (node_in S.nodes e.parent).expression (h i).subject e.parent) S.edges)

not-not : (b : Bool) → not (not b) ≡ b
not-not true = refl
not-not false = refl

-- Form

pub formed-is : (h : Header) (k : ℕ) (p c : Node) {v : ℕ} {r : Bool} → v ≡ entity_of h p.verifier → r ≡ form k v p c → r ≡ formed_as h k p c
unfolding formed_as
formed-is h k p c ve e = e ∙ ap (λ (w : ℕ). form k w p c) ve

-- an edge of a state with this header and these edges joins these nodes
pub record JoinAt (S : State) (h : Header) (E : List Edge) (p c : Node) (e : Edge) : Type 0 where
  pub header : S.header ≡ h
  pub edges : S.edges ≡ E
  pub parent : p ≡ node_in S.nodes e.parent
  pub child : c ≡ node_in S.nodes e.child

module _ (S : State) (h : Header) (E : List Edge) (p c : Node) (e : Edge) {f : Bool} (fe : f ≡ formed_as h e.kind p c) (j : JoinAt S h E p c e) where
  by-join : (a b d : Bool) → a ≡ f → b ≡ eqb e.parent e.child → d ≡ has_edge E e → (not a || (b || d)) ≡ join_wrong S e
  unfolding join_wrong
  by-join a b d x y z = λ i.
      not ((x ∙ fe ∙ (λ k. formed_as (sym j.header k) e.kind (j.parent k) (j.child k))) i)
      || (y i || (z ∙ ap (λ (l : List Edge). has_edge l e) (sym j.edges)) i)

  pub join-unformed : not f ≡ true → true ≡ join_wrong S e
  join-unformed n = by-join false _ _ (sym (not-true f n)) refl refl

  pub join-self : not f ≡ false → e.parent ≡ e.child → true ≡ join_wrong S e
  join-self n s = by-join true true _ (sym (not-false f n)) (sym (eq-eqb e.parent e.child s)) refl

  pub join-there : {r : Bool} → not f ≡ false → (e.parent ≡ e.child → ⊥) → r ≡ has_edge E e → r ≡ join_wrong S e
  join-there {r} n s q = by-join true false r (sym (not-false f n)) (sym (ne_eqb e.parent e.child s)) q

-- a new child of this node is brought to a state with this header and these nodes
pub record BringAt (S : State) (h : Header) (N : Nodes) (p : Node) (b : NewEdge) : Type 0 where
  pub header : S.header ≡ h
  pub nodes : S.nodes ≡ nodes_of N
  pub parent : p ≡ node_in S.nodes b.parent

module _ (S : State) (h : Header) (N : Nodes) (p c : Node) (b : NewEdge) {f : Bool} (ce : c ≡ child_of p b) (fe : f ≡ formed_as h b.kind p c)
    (j : BringAt S h N p b) where
  child : c ≡ child_of (node_in S.nodes b.parent) b
  child = ce ∙ ap (λ (x : Node). child_of x b) j.parent

  by-bring : (a r : Bool) → a ≡ f → r ≡ any (is_node b.expression c.verifier b.subject) S.nodes → (not a || r) ≡ bring_wrong S b
  unfolding bring_wrong
  by-bring a r x y = λ i.
      not ((x ∙ fe ∙ (λ k. formed_as (sym j.header k) b.kind (j.parent k) (child k))) i)
      || (y ∙ ap (λ (z : Node). any (is_node b.expression z.verifier b.subject) S.nodes) child) i

  pub bring-unformed : not f ≡ true → true ≡ bring_wrong S b
  bring-unformed n = by-bring false _ (sym (not-true f n)) refl

  pub bring-there : {r : ℕ} → N.count ≤ MOST-NODES → not f ≡ false → r ≡ find_node (nodes_of N) b.expression c.verifier b.subject
      → not (eqb r 128) ≡ bring_wrong S b
  bring-there {r} few n q =
      by-bring true (not (eqb r 128)) (sym (not-false f n))
      (ap (λ (k : ℕ). not (eqb k 128)) q ∙ ap not (found_none N b.expression c.verifier b.subject few)
      ∙ not-not (any (is_node b.expression c.verifier b.subject) (nodes_of N))
      ∙ ap (any (is_node b.expression c.verifier b.subject)) (sym j.nodes))

-- what the rules behind the form say of an edge into p
abbrev pub added_number : ℕ → Node → Bool → Bool → ℕ
added_number s p justifies full = refuse (not justifies) UNJUSTIFIED (refuse (processed_by s p) PROCESSED (refuse full FULL 0))
