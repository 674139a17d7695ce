-- What a command does, by the tests of its code; what it leaves as it was. Assumes nothing.
use Rattle.std.specs.Prelude.{ℕ, ◌≤◌, ◌<◌, ◌≡◌, true, false, ◌&&◌, [], ◌∷◌, leb}
use native.Mathlib.Omega.{arith}
use Rattle.std.proofs.Math.Path.{refl, sym, ap}
use Rattle.std.proofs.Common.{◌∙◌, length-append, length-set}
use Rattle.std.proofs.Math.Bool.{Bool, cond}
use borrow.Author.Tests.{eq-eqb, ne_eqb, ltb-true, leb-true}
use Rattle.std.proofs.Math.ListN.{length}
use Rattle.word.specs.laws.Bools.{false-true}
use Rattle.message.specs.declared.Opening.{Opening}
use Rattle.message.specs.declared.Command.{Command}
use Rattle.message.specs.declared.Command.TheVariants.{Show, Open, Bring, Join, Mark, End}
use Rattle.negotiation.specs.State.{State, within, with_node, with_edge, with_shown, with_mark}
use Rattle.applied.specs.Step.{primary_of, child_in, stepped, is_move, verifier_of, child_of, has_room}
use Rattle.std.proofs.Math.Dec.{ltb}
use Rattle.expression.specs.declared.Credential.{Credential}
use Rattle.expression.specs.laws.Laws.{and_left, and_right}
use Rattle.expression.specs.declared.Expression.TheVariants as E
use Rattle.rt0.specs.laws.Pool.{credentials}
use Rattle.rt0.specs.laws.Added.{count-length}
use Rattle.graph.specs.declared.Node.{Node}
use Rattle.graph.specs.declared.Edge.{Edge}
use Rattle.graph.specs.laws.Graph.{nodes_of, edges_of}
use Rattle.graph.specs.Graph.{node_in}
use Rattle.graph.specs.laws.Columns.{nodes-length, edges-length}
use Rattle.message.specs.declared.NewEdge.{NewEdge}
use Rattle.negotiation.specs.declared.Header.{Header}
use Rattle.negotiation.specs.declared.Negotiation.{Negotiation}
use Rattle.negotiation.specs.laws.State.{state_of}
use Rattle.negotiation.specs.Ends.{requester, other_side}
use Rattle.graph.specs.Processed.{marked_state}
use Rattle.numbers.specs.Sizes.{MOST-NODES, MOST-EDGES, MOST-SHOWN}

-- One command

pub step-header : (S : State) (s : ℕ) (c : Command) → (stepped S s c).header ≡ S.header
unfolding stepped with_shown with_node with_edge with_mark
step-header S s (Show c) = refl
step-header S s (Open o) = refl
step-header S s (Bring n) = refl
step-header S s (Join e) = refl
step-header S s (Mark i) = refl
step-header S s End = refl

pub step-still : (S : State) (s : ℕ) (c : Command) → is_move c ≡ false → ((stepped S s c).nodes ≡ S.nodes) × ((stepped S s c).edges ≡ S.edges)
unfolding stepped with_shown
step-still S s (Show c) h = (refl, refl)
step-still S s (Open o) h = absurd (false-true (sym h))
step-still S s (Bring n) h = absurd (false-true (sym h))
step-still S s (Join e) h = absurd (false-true (sym h))
step-still S s (Mark i) h = absurd (false-true (sym h))
step-still S s End h = (refl, refl)

pub step-some : (S : State) (s : ℕ) (c : Command) → (length S.nodes ≡ 0 → ⊥) → length (stepped S s c).nodes ≡ 0 → ⊥
unfolding stepped with_shown with_node with_edge with_mark
step-some S s (Show c) some z = some z
step-some S s (Open o) some z = omega (arith, length-append S.nodes (primary_of S.header o ∷ []))
step-some S s (Bring n) some z = omega (arith, length-append S.nodes (child_in S n ∷ []))
step-some S s (Join e) some z = some z
step-some S s (Mark i) some z = some (sym (length-set S.nodes i _) ∙ z)
step-some S s End some z = some z

module _ (k : ℕ) (p : Node) where
  pub verifier-same : (k ≡ 6 → ⊥) → p.verifier ≡ verifier_of k p
  unfolding verifier_of
  verifier-same e = ap (λ (b : Bool). cond b (other_side p.verifier) p.verifier) (sym (ne_eqb k 6 e))

  verifier-control : k ≡ 6 → other_side p.verifier ≡ verifier_of k p
  unfolding verifier_of
  verifier-control e = ap (λ (b : Bool). cond b (other_side p.verifier) p.verifier) (sym (eq-eqb k 6 e))

  pub verifier-requester : (k ≡ 6) → p.verifier ≡ 0 → 1 ≡ verifier_of k p
  verifier-requester e h = ap (λ (b : Bool). cond b 1 0) (sym (eq-eqb p.verifier 0 h)) ∙ verifier-control e

  pub verifier-mediator : (k ≡ 6) → (p.verifier ≡ 0 → ⊥) → 0 ≡ verifier_of k p
  verifier-mediator e h = ap (λ (b : Bool). cond b 1 0) (sym (ne_eqb p.verifier 0 h)) ∙ verifier-control e

pub primary-is : (h : Header) (o : Opening) {s : ℕ} → s ≡ requester h
    → record { expression = E.Role o.role; subject = s; verifier = 0; state = o.state } ≡ primary_of h o
unfolding primary_of
primary-is h o e = λ i. record { expression = E.Role o.role; subject = e i; verifier = 0; state = o.state }

pub child-is : (p : Node) (n : NewEdge) {v : ℕ} → v ≡ verifier_of n.kind p
    → record { expression = n.expression; subject = n.subject; verifier = v; state = n.state } ≡ child_of p n
unfolding child_of
child-is p n e = λ i. record { expression = n.expression; subject = n.subject; verifier = e i; state = n.state }

-- Room

module _ (n : Negotiation) where
  -- a node more leaves the edges
  pub edges-kept : (r : Negotiation) (x : Node) → state_of r ≡ with_node (state_of n) x → r.edges.count ≡ n.edges.count
  unfolding state_of with_node
  edges-kept r x h = sym (edges-length r.edges) ∙ ap (λ (S : State). length S.edges) h ∙ edges-length n.edges

  pub nodes-few : within (state_of n) ≡ true → n.nodes.count ≤ MOST-NODES
  unfolding within state_of
  nodes-few h =
      omega (
        arith,
        nodes-length n.nodes,
        leb-true (length (nodes_of n.nodes)) 128
            (and_left _ (leb (length (edges_of n.edges)) 256) (and_left _ (leb (length (credentials n.shown)) 64) h)),
      )

  pub room-show : (c : Credential) → has_room (state_of n) (Show c) ≡ true → n.shown.count < MOST-SHOWN
  unfolding has_room state_of
  room-show c h = omega (arith, count-length n.shown, ltb-true (length (credentials n.shown)) 64 h)

  pub room_open : (o : Opening) → has_room (state_of n) (Open o) ≡ true → n.nodes.count < MOST-NODES
  unfolding has_room state_of
  room_open o h = omega (arith, nodes-length n.nodes, ltb-true (length (nodes_of n.nodes)) 128 h)

  pub room-bring : (b : NewEdge) → has_room (state_of n) (Bring b) ≡ true
      → (b.parent < n.nodes.count) × (n.nodes.count < MOST-NODES) × (n.edges.count < MOST-EDGES)
  unfolding has_room state_of
  room-bring b h =
      let p : Bool = ltb b.parent (length (nodes_of n.nodes)) in
      let q : Bool = ltb (length (nodes_of n.nodes)) 128 in
      let r : Bool = ltb (length (edges_of n.edges)) 256 in (
        omega (arith, nodes-length n.nodes, ltb-true b.parent (length (nodes_of n.nodes)) (and_left p q (and_left (p && q) r h))),
        omega (arith, nodes-length n.nodes, ltb-true (length (nodes_of n.nodes)) 128 (and_right p q (and_left (p && q) r h))),
        omega (arith, edges-length n.edges, ltb-true (length (edges_of n.edges)) 256 (and_right (p && q) r h)),
      )

  pub room-join : (e : Edge) → has_room (state_of n) (Join e) ≡ true → n.edges.count < MOST-EDGES
  unfolding has_room state_of
  room-join e h = omega (arith, edges-length n.edges, ltb-true (length (edges_of n.edges)) 256 h)

  pub room-mark : (i : ℕ) → has_room (state_of n) (Mark i) ≡ true → i < n.nodes.count
  unfolding has_room state_of
  room-mark i h = omega (arith, nodes-length n.nodes, ltb-true i (length (nodes_of n.nodes)) h)

  -- Commands

  pub step-open : (s : ℕ) (o : Opening) {x : Node} {R : State} → x ≡ primary_of n.header o → R ≡ with_node (state_of n) x → R ≡ stepped (state_of n) s (Open o)
  unfolding stepped state_of
  step-open s o e h = h ∙ ap (with_node (state_of n)) e

  pub step-bring : (s : ℕ) (b : NewEdge) {p x : Node} {Q R : State} → p ≡ node_in (nodes_of n.nodes) b.parent → x ≡ child_of p b → Q ≡ with_node (state_of n) x
      → R ≡ with_edge Q (record { kind = b.kind; parent = b.parent; child = n.nodes.count }) → R ≡ stepped (state_of n) s (Bring b)
  unfolding stepped state_of
  step-bring s b {p} {x} pe xe h k =
      k ∙ (λ i. with_edge ((h ∙ ap (with_node (state_of n)) (xe ∙ ap (λ (y : Node). child_of y b) pe)) i)
      (record { kind = b.kind; parent = b.parent; child = sym (nodes-length n.nodes) i }))

  pub step-mark : (s i : ℕ) {x : Node} {j t : ℕ} {R : State} → x ≡ node_in (nodes_of n.nodes) i → j ≡ i → t ≡ marked_state s x
      → R ≡ with_mark (state_of n) j t → R ≡ stepped (state_of n) s (Mark i)
  unfolding stepped state_of
  step-mark s i xe je te h = h ∙ (λ k. with_mark (state_of n) (je k) ((te ∙ ap (marked_state s) xe) k))

  pub step-show : (s : ℕ) (c : Credential) {R : State} → R ≡ with_shown (state_of n) c → R ≡ stepped (state_of n) s (Show c)
  unfolding stepped
  step-show s c h = h

  pub step-join : (s : ℕ) (e : Edge) {R : State} → R ≡ with_edge (state_of n) e → R ≡ stepped (state_of n) s (Join e)
  unfolding stepped
  step-join s e h = h

  pub step_end : (s : ℕ) → state_of n ≡ stepped (state_of n) s End
  unfolding stepped
  step_end s = refl

-- where it is known which command
pub room_for : (S : State) (c k : Command) → c ≡ k → has_room S c ≡ true → has_room S k ≡ true
room_for S c k h room = sym (ap (has_room S) h) ∙ room

pub step-for : (S : State) (s : ℕ) (c k : Command) {R : State} → c ≡ k → R ≡ stepped S s k → R ≡ stepped S s c
step-for S s c k h e = e ∙ ap (stepped S s) (sym h)
