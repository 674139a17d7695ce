-- The first node, by rising number, at which there is something to do. Assumes nothing.
use Prim.Native.Nat.{ℕ, zero, suc, ◌+◌, ◌*◌, ◌/◌, ◌%◌, ◌≤◌, ◌<◌}
use native.Mathlib.Omega.{arith}
use Rattle.std.specs.Prelude.{◌≡◌, ◌⊎◌, Bool, true, not, cond, ◌&&◌, eqb, length, get_or}
use Rattle.std.proofs.Math.Path.{refl, sym, ap}
use Rattle.std.proofs.Common.{◌∙◌, subst, inl, inr, ⊎_elim}
use Rattle.std.proofs.Math.Bool.{false}
use mathlib.Core.List.{List, [], ◌∷◌, ◌++◌, map}
use borrow.Author.Tests.{eqb-true, eqb-false, eq-eqb, ne_eqb, not-true, not-false}
use Rattle.expression.specs.declared.Raw.{Raw}
use Rattle.expression.specs.declared.Expression.{Expression}
use Rattle.expression.specs.declared.Expression.TheVariants as E
use Rattle.expression.specs.Form.{pick_expression, expression_of}
use Rattle.word.specs.laws.Bools.{false-true}
use Rattle.propagation.specs.laws.Flags.{decided}
use Rattle.graph.specs.declared.Node.{Node}
use Rattle.graph.specs.declared.Nodes.{Nodes}
use Rattle.rt0.specs.laws.Pool.{raw_at_columns, expression_in}
use Rattle.graph.specs.laws.Graph.{node_at}
use Rattle.graph.specs.Graph.{node_in}
use Rattle.graph.specs.laws.Columns.{nodes-length, node_in_lem}
use Rattle.tables.specs.Tables.{Tables}
use Rattle.negotiation.specs.declared.Negotiation.{Negotiation}
use Rattle.negotiation.specs.State.{State}
use Rattle.negotiation.specs.laws.State.{state_of}
use Rattle.graph.specs.Processed.{processed_by}
use Rattle.message.specs.declared.Command.{Command}
use Rattle.message.specs.declared.Command.TheVariants.{Show}
use Rattle.moves.specs.declared.Choice.{Choice}
use Rattle.moves.specs.declared.Choice.TheVariants as C
use Rattle.moves.specs.Rules.{End, end_in}
use Rattle.moves.specs.Move.{Move, credentials_for, edge_command, move_for, choice_at, or_next, moves_from, next_move}
use Rattle.moves.specs.laws.Own.{found_move}
use Rattle.choice.specs.laws.RuleChoice.{at-processed}

abbrev pub is_nothing : Choice → Bool
is_nothing (C.Edge w) = false
is_nothing C.Mark = false
is_nothing C.Nothing = true

pub nothing_is : (c : Choice) → is_nothing c ≡ true → c ≡ C.Nothing
nothing_is (C.Edge w) h = absurd (false-true h)
nothing_is C.Mark h = absurd (false-true h)
nothing_is C.Nothing h = refl

module _ (o : End) where
  or-append : (cs : List Command) (c : Command) (m : Move) → or_next o (cs ++ (c ∷ [])) m ≡ cs ++ (c ∷ [])
  or-append [] c m = refl
  or-append (x ∷ cs) c m = refl

  -- a move that is there is made
  or-first : (i : ℕ) (n : Node) (c : Choice) (m : Move) → is_nothing c ≡ false → or_next o (move_for o i n c) m ≡ move_for o i n c
  or-first i n (C.Edge w) m h = or-append (map Show (credentials_for o n w)) (edge_command o i w) m
  or-first i n C.Mark m h = refl
  or-first i n C.Nothing m h = absurd (false-true (sym h))

  -- nothing is to be done at the first j nodes, numbered from k on
  found_from : (k : ℕ) (ns : List Node) (j : ℕ) → j < length ns → ((t : ℕ) → t < j → choice_at o (k + t) (node_in ns t) ≡ C.Nothing)
      → is_nothing (choice_at o (k + j) (node_in ns j)) ≡ false
      → moves_from o k ns ≡ move_for o (k + j) (node_in ns j) (choice_at o (k + j) (node_in ns j))
  unfolding moves_from
  found_from k [] j l h z = absurd (omega arith)
  found_from k (n ∷ ns) zero l h z =
      let e : k + 0 ≡ k = omega arith in
      let q : is_nothing (choice_at o k n) ≡ false = sym (ap (λ (m : ℕ). is_nothing (choice_at o m n)) e) ∙ z in
      or-first k n (choice_at o k n) (moves_from o (suc k) ns) q ∙ sym (ap (λ (m : ℕ). move_for o m n (choice_at o m n)) e)
  found_from k (n ∷ ns) (suc j) l h z =
      let e : k + 0 ≡ k = omega arith in
      let s : suc k + j ≡ k + suc j = omega arith in
      let first : choice_at o k n ≡ C.Nothing = sym (ap (λ (m : ℕ). choice_at o m n) e) ∙ h 0 (omega arith) in
      ap (λ (c : Choice). or_next o (move_for o k n c) (moves_from o (suc k) ns)) first
      ∙ (found_from (suc k) ns j (omega arith) (λ t q. let u : suc k + t ≡ k + suc t = omega arith in ap (λ (m : ℕ). choice_at o m (node_in ns t)) u
      ∙ h (suc t) (omega arith)) (ap (λ (m : ℕ). is_nothing (choice_at o m (node_in ns j))) s ∙ z)
      ∙ ap (λ (m : ℕ). move_for o m (node_in ns j) (choice_at o m (node_in ns j))) s)

  none_from : (k : ℕ) (ns : List Node) → ((t : ℕ) → t < length ns → choice_at o (k + t) (node_in ns t) ≡ C.Nothing) → moves_from o k ns ≡ []
  unfolding moves_from
  none_from k [] h = refl
  none_from k (n ∷ ns) h =
      let e : k + 0 ≡ k = omega arith in
      let first : choice_at o k n ≡ C.Nothing = sym (ap (λ (m : ℕ). choice_at o m n) e) ∙ h 0 (omega arith) in
      ap (λ (c : Choice). or_next o (move_for o k n c) (moves_from o (suc k) ns)) first
      ∙ none_from (suc k) ns (λ t q. let u : suc k + t ≡ k + suc t = omega arith in ap (λ (m : ℕ). choice_at o m (node_in ns t)) u ∙ h (suc t) (omega arith))

  from_zero : (ns : List Node) (t : ℕ) → choice_at o t (node_in ns t) ≡ C.Nothing → choice_at o (0 + t) (node_in ns t) ≡ C.Nothing
  from_zero ns t h = let u : 0 + t ≡ t = omega arith in ap (λ (m : ℕ). choice_at o m (node_in ns t)) u ∙ h

-- our side has not processed a node of this verifier and state
unfoldable pub is_unprocessed : ℕ → ℕ → ℕ → Bool
is_unprocessed s v t = cond (eqb v s) (not (eqb (t % 2) 1)) (not (eqb (t / 2 % 2) 1))

-- it is open or processed
open-not : (s : ℕ) (n : Node) → is_unprocessed s n.verifier n.state ≡ false → processed_by s n ≡ true
unfolding is_unprocessed processed_by
open-not s n h = go (eqb n.verifier s) (eqb (n.state % 2) 1) (eqb (n.state / 2 % 2) 1) h
  where
    go : (a b c : Bool) → cond a (not b) (not c) ≡ false → cond a b c ≡ true
    go true b c k = not-false b k
    go false b c k = not-false c k

pub open_own : (s v t : ℕ) → v ≡ s → not (eqb (t % 2) 1) ≡ is_unprocessed s v t
unfolding is_unprocessed
open_own s v t h = sym (ap (λ (b : Bool). cond b (not (eqb (t % 2) 1)) (not (eqb (t / 2 % 2) 1))) (eq-eqb v s h))

pub open-other : (s v t : ℕ) → (v ≡ s → ⊥) → not (eqb (t / 2 % 2) 1) ≡ is_unprocessed s v t
unfolding is_unprocessed
open-other s v t h = sym (ap (λ (b : Bool). cond b (not (eqb (t % 2) 1)) (not (eqb (t / 2 % 2) 1))) (ne_eqb v s h))

-- nothing is to be done at the nodes below i
pub record NothingBefore (o : End) (i : ℕ) : Type 0 where
  pub none : (j : ℕ) → j < i → choice_at o j (node_in o.state.nodes j) ≡ C.Nothing

pub nothing-start : (o : End) → NothingBefore o 0
nothing-start o = record { none = λ j l. absurd (omega arith) }

module _ (o : End) {i : ℕ} (P : NothingBefore o i) {n : Node} (ne : n ≡ node_in o.state.nodes i) {c : Choice} (ce : c ≡ choice_at o i n) {b : Bool}
    (be : b ≡ is_nothing c) where
  here : c ≡ choice_at o i (node_in o.state.nodes i)
  here = ce ∙ ap (choice_at o i) ne

  pub nothing-next : not b ≡ false → NothingBefore o (i + 1)
  nothing-next h =
      record {
        none = λ j l.
            ⊎_elim
            (λ z. let q : j ≡ i = eqb-true j i z in ap (λ (m : ℕ). choice_at o m (node_in o.state.nodes m)) q
            ∙ (sym here ∙ nothing_is c (sym be ∙ not-false b h)))
            (λ z. P.none j (omega (arith, eqb-false j i z))) (decided (eqb j i));
      }

  pub found_here : not b ≡ true → i < length o.state.nodes → {m : ℕ} → m ≡ i → next_move o ≡ found_move o (record { node = m; choice = c })
  unfolding next_move found_move
  found_here h l e =
      let z : 0 + i ≡ i = omega arith in
      let q : is_nothing (choice_at o i (node_in o.state.nodes i)) ≡ false = ap is_nothing (sym here) ∙ (sym be ∙ not-true b h) in
      found_from o 0 o.state.nodes i l (λ t k. from_zero o o.state.nodes t (P.none t k))
      (ap (λ (m : ℕ). is_nothing (choice_at o m (node_in o.state.nodes i))) z ∙ q)
      ∙ (ap (λ (m : ℕ). move_for o m (node_in o.state.nodes i) (choice_at o m (node_in o.state.nodes i))) z
      ∙ ((λ t. move_for o i (node_in o.state.nodes i) (sym here t)) ∙ ap (λ (j : ℕ). move_for o j (node_in o.state.nodes j) c) (sym e)))

pub found_nothing : (o : End) {i : ℕ} → NothingBefore o i → length o.state.nodes ≤ i → next_move o ≡ found_move o (record { node = 0; choice = C.Nothing })
unfolding next_move found_move
found_nothing o {i} P l = none_from o 0 o.state.nodes (λ t q. from_zero o o.state.nodes t (P.none t (omega arith)))

abbrev pub is_goal : Expression → Bool
is_goal (E.Entity a) = false
is_goal (E.Role a) = false
is_goal (E.Linked a r) = false
is_goal (E.Intersection p) = false
is_goal (E.Goal r) = true

-- unless node q is a goal, there is nothing to do below it
pub record Resting (T : Tables) (S : State) (q : ℕ) : Type 0 where
  pub stands : q < length S.nodes
  pub none : is_goal (node_in S.nodes q).expression ≡ false → NothingBefore (end_in T S) q

-- a kind that no other expression has
abbrev pub is_goal_kind : ℕ → Bool
is_goal_kind k = not (eqb k 1) && not (eqb k 2) && not (eqb k 3) && not (eqb k 4)

goal-kind : (r : Raw) → is_goal_kind r.kind ≡ false → is_goal (expression_of r) ≡ false
goal-kind r h =
    go (eqb r.kind 1) (eqb r.kind 2) (eqb r.kind 3) (eqb r.kind 4) (E.Entity r.n0) (E.Role (record { entity = r.n0; name = r.n1 }))
    (E.Linked (record { entity = r.n0; name = r.n1 }) r.n2)
    (E.Intersection (record {
      count = r.count;
      first = record { entity = r.n0; name = r.n1 };
      second = record { entity = r.n2; name = r.n3 };
      third = record { entity = r.n4; name = r.n5 };
      fourth = record { entity = r.n6; name = r.n7 };
    })) (E.Goal r.n0) refl refl refl refl h
  where
    go : (a b c d : Bool) (v w x y z : Expression) → is_goal v ≡ false → is_goal w ≡ false → is_goal x ≡ false → is_goal y ≡ false
        → (not a && not b && not c && not d) ≡ false
        → is_goal (pick_expression a v (pick_expression b w (pick_expression c x (pick_expression d y z)))) ≡ false
    go true b c d v w x y z p q s t h = p
    go false true c d v w x y z p q s t h = q
    go false false true d v w x y z p q s t h = s
    go false false false true v w x y z p q s t h = t
    go false false false false v w x y z p q s t h = absurd (false-true (sym h))

goal-node : (N : Nodes) (i : ℕ) → is_goal_kind (get_or N.kind (i * 2) 0) ≡ false → is_goal (node_at N i).expression ≡ false
unfolding expression_in
goal-node N i h = goal-kind (raw_at_columns N.kind N.number i) h

-- the search begins at q, or at the first node where q is a goal
pub record BeginsAt (K : List ℕ) (q r : ℕ) : Type 0 where
  pub begins : (r ≡ 0) ⊎ ((r ≡ q) × (is_goal_kind (get_or K (q * 2) 0) ≡ false))

pub begins-first : {K : List ℕ} {q : ℕ} → BeginsAt K q 0
begins-first = record { begins = inl refl }

pub begins-there : {K : List ℕ} {q : ℕ} → is_goal_kind (get_or K (q * 2) 0) ≡ false → BeginsAt K q q
begins-there h = record { begins = inr (refl, h) }

pub nothing-begins : (T : Tables) (n : Negotiation) {q r : ℕ} → Resting T (state_of n) q → BeginsAt n.nodes.kind q r
    → NothingBefore (end_in T (state_of n)) r × (r ≤ n.nodes.count)
unfolding end_in state_of
nothing-begins T n {q} {r} R b =
    ⊎_elim
    (λ e. (subst (NothingBefore (end_in T (state_of n))) (sym e) (nothing-start (end_in T (state_of n))), omega (arith, e)))
    (λ e. (
      subst (NothingBefore (end_in T (state_of n))) (sym e.0)
          (R.none (ap (λ (x : Node). is_goal x.expression) (node_in_lem n.nodes q inside) ∙ goal-node n.nodes q e.1)),
      omega (arith, e.0, inside),
    ))
    b.begins
  where
    inside : q < n.nodes.count
    inside = omega (arith, R.stands, nodes-length n.nodes)

-- a node that our side has processed is passed over
pub nothing-processed : (T : Tables) (n : Negotiation) {i : ℕ} → NothingBefore (end_in T (state_of n)) i → i < n.nodes.count → {b : Bool}
    → b ≡ is_unprocessed n.header.side (get_or n.nodes.verifier i 0) (get_or n.nodes.state i 0) → b ≡ false
    → NothingBefore (end_in T (state_of n)) (i + 1)
unfolding end_in state_of
nothing-processed T n {i} P l e h =
    let x : Node = node_at n.nodes i in
    let p : processed_by n.header.side x ≡ true = open-not n.header.side x (sym e ∙ h) in
    nothing-next (end_in T (state_of n)) P (sym (node_in_lem n.nodes i l)) {c = C.Nothing}
    (at-processed T (state_of n) i x {p = true} (sym p) refl refl) {b = true} refl refl
