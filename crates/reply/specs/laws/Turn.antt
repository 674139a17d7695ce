-- What comes next in a reply, test by test. Assumes nothing.
use Rattle.std.specs.Prelude.{ℕ, ◌+◌, ◌≤◌, ◌<◌, ◌≡◌, Bool, not, ◌&&◌, ◌||◌, List, [], ◌∷◌, ◌++◌, length, get_or}
use Rattle.std.proofs.Common.{arith, ◌∙◌, length-append}
use Rattle.std.proofs.Math.Path.{refl, sym, ap}
use Rattle.std.proofs.Math.Bool.{true, false, cond}
use borrow.Author.Tests.{ne_eqb, lt-leb, le-leb, not-true, not-false}
use Rattle.std.proofs.Math.Dec.{eqb}
use Rattle.expression.specs.declared.Expression.{Expression}
use Rattle.expression.specs.declared.Expression.TheVariants as E
use Rattle.expression.specs.Same.{same}
use Rattle.expression.specs.laws.Same.{same-eq}
use Rattle.expression.specs.Kinds.{is_role_expression}
use Rattle.word.specs.laws.Bools.{and_parts, false-true}
use Rattle.propagation.specs.Flags.{at}
use Rattle.rules.specs.laws.Table.{chosen}
use Rattle.tables.specs.Tables.{Tables}
use Rattle.graph.specs.declared.Node.{Node}
use Rattle.graph.specs.declared.Edge.{Edge}
use Rattle.graph.specs.laws.Graph.{nodes_of, edges_of}
use Rattle.graph.specs.Graph.{node_in}
use Rattle.graph.specs.Propagated.{complete_as, complete_b, failed_b, propagated_state as propagated}
use Rattle.graph.specs.laws.Columns.{nodes-length}
use Rattle.states.specs.laws.Brings.{NodesFormed, EdgesFormed}
use Rattle.states.specs.laws.Complete.{StateColumns, state-satisfied}
use Rattle.message.specs.declared.Command.{Command}
use Rattle.negotiation.specs.declared.Header.{Header}
use Rattle.negotiation.specs.declared.Negotiation.{Negotiation}
use Rattle.negotiation.specs.State.{State}
use Rattle.negotiation.specs.laws.State.{state_of}
use Rattle.negotiation.specs.laws.Within.{within-few}
use Rattle.negotiation.specs.Ends.{requester}
use Rattle.damage.specs.Records.{primary_sound}
use Rattle.legal.specs.laws.Kept.{record-parts}
use Rattle.message.specs.Message.{bytes_of}
use Rattle.moves.specs.declared.Choice.{Choice}
use Rattle.moves.specs.declared.Choice.TheVariants as K
use Rattle.moves.specs.declared.Found.{Found}
use Rattle.moves.specs.declared.Outgoing.{Outgoing}
use Rattle.moves.specs.laws.Own.{commands_of, found_move}
use Rattle.moves.specs.Rules.{end_in}
use Rattle.moves.specs.Move.{Move, move_for, next_move}
use Rattle.moves.specs.Carried.{has_room_for}
use Rattle.choice.specs.laws.Next.{is_nothing, nothing_is}
use Rattle.legality.specs.laws.Going.{Going, going-nodes, going-edges}
use Rattle.reply.specs.laws.Outgoing.{shows}
use Rattle.reply.specs.laws.Turns.{stops, goes, by_room, fits_behind, behind_move, next_in}
use Rattle.numbers.specs.Sizes.{MOST-NODES, MOST-EDGES}

pub something : (k : Choice) {b : Bool} → b ≡ is_nothing k → b ≡ false → k ≡ K.Nothing → ⊥
something k e z h = false-true (sym z ∙ e ∙ ap is_nothing h)

-- The primary

-- a role is no goal
role-open : (ns : List Node) (es : List Edge) (i p : ℕ) (h : Header) (x : Expression)
    → cond (eqb h.side 0) (same x (E.Role h.wanted)) (is_role_expression x) ≡ true → complete_as ns es i p x ≡ false
role-open ns es i p h (E.Entity a) e = refl
role-open ns es i p h (E.Role a) e = refl
role-open ns es i p h (E.Linked a r) e = refl
role-open ns es i p h (E.Intersection q) e = refl
role-open ns es i p h (E.Goal r) e = absurd (go (eqb h.side 0) e)
  where
    go : (b : Bool) → cond b (same (E.Goal r) (E.Role h.wanted)) false ≡ true → ⊥
    go true k = false-true (ap is_role_expression (same-eq (E.Goal r) (E.Role h.wanted) k))
    go false k = false-true k

module _ (T : Tables) (S : State) (g : Going T S) where
  primary-incomplete : complete_b S.nodes S.edges 0 ≡ false
  unfolding complete_b primary_sound
  primary-incomplete =
      let x : Node = node_in S.nodes 0 in
      let p = (record-parts T.names S g.graph.records).1 in
      role-open S.nodes S.edges 0 x.state S.header x.expression
      (and_parts (eqb x.verifier 0 && eqb x.subject (requester S.header)) _ p).1

  -- it is satisfied only where the column has it
  primary-open : (sat failed : List ℕ) → StateColumns S.nodes S.edges sat failed → (get_or sat 0 0 ≡ 1 → ⊥)
      → eqb (propagated S.nodes S.edges 0) 1 ≡ false
  unfolding propagated
  primary-open sat failed z h =
      (λ i. eqb (cond ((sym (z.is-sat 0) ∙ ne_eqb (get_or sat 0 0) 1 h) i || primary-incomplete i) 1 (cond (at (failed_b S.nodes S.edges) 0) 2 0)) 1)
      ∙ go (at (failed_b S.nodes S.edges) 0)
    where
      go : (b : Bool) → eqb (cond b 2 0) 1 ≡ false
      go true = refl
      go false = refl

-- what the columns of a negotiation are filled from
pub going-ready : (T : Tables) (n : Negotiation) → Going T (state_of n)
    → (0 < n.nodes.count) × (n.nodes.count ≤ MOST-NODES) × (n.edges.count ≤ MOST-EDGES) × NodesFormed (nodes_of n.nodes)
    × EdgesFormed (nodes_of n.nodes) (edges_of n.edges)
unfolding state_of
going-ready T n g =
    let few = within-few n g.sizes in
    (positive n.nodes.count (λ z. g.some (nodes-length n.nodes ∙ z)), few.0, few.1, going-nodes T (state_of n) g, going-edges T (state_of n) g)
  where
    positive : (k : ℕ) → (k ≡ 0 → ⊥) → 0 < k
    positive k h = omega (arith, h)

-- The next move

-- a move that is one
some-move : (S : State) (bytes : ℕ) (m : Move) → (m ≡ [] → ⊥) → behind_move S bytes m ≡ by_room m (has_room_for S.header.side S m) (fits_behind bytes m)
some-move S bytes [] h = absurd (h refl)
some-move S bytes (c ∷ ms) h = refl

pub commands-some : (out : Outgoing) → commands_of out ≡ [] → ⊥
unfolding commands_of
commands-some out h = last_some (shows (chosen out.pool out.on)) out.command h
  where
    last_some : (a : List Command) (c : Command) → a ++ (c ∷ []) ≡ [] → ⊥
    last_some a c h = omega (arith, ap length h, length-append a (c ∷ []))

module _ (T : Tables) (n : Negotiation) (bytes : ℕ) {sat failed : List ℕ} (z : StateColumns (nodes_of n.nodes) (edges_of n.edges) sat failed) where
  -- the primary is satisfied
  pub next-satisfied : get_or sat 0 0 ≡ 1 → next_in T (state_of n) bytes ≡ stops false
  unfolding next_in state_of
  next-satisfied h =
      sym (ap (λ (k : ℕ). cond (eqb k 1) (stops false) (behind_move (state_of n) bytes (next_move (end_in T (state_of n)))))
      (state-satisfied (nodes_of n.nodes) (edges_of n.edges) 0 sat z.is-sat h))

  module _ (g : Going T (state_of n)) (h : get_or sat 0 0 ≡ 1 → ⊥) (f : Found) (fe : next_move (end_in T (state_of n)) ≡ found_move (end_in T (state_of n)) f) where
    by_move : next_in T (state_of n) bytes ≡ behind_move (state_of n) bytes (found_move (end_in T (state_of n)) f)
    unfolding next_in state_of
    by_move = λ i. cond (primary-open T (state_of n) g sat failed z h i) (stops false) (behind_move (state_of n) bytes (fe i))

    -- no move is left
    pub next-none : {b : Bool} → b ≡ is_nothing f.choice → b ≡ true → next_in T (state_of n) bytes ≡ stops false
    unfolding found_move
    next-none be k =
        by_move ∙ ap (λ (x : Choice). behind_move (state_of n) bytes
        (move_for (end_in T (state_of n)) f.node (node_in (end_in T (state_of n)).state.nodes f.node) x)) (nothing_is f.choice (sym be ∙ k))

    -- a move
    module _ (out : Outgoing) (oe : commands_of out ≡ found_move (end_in T (state_of n)) f) {b : Bool}
        (be : b ≡ has_room_for n.header.side (state_of n) (commands_of out)) where
      by-room : (x y : Bool) → x ≡ has_room_for n.header.side (state_of n) (commands_of out) → y ≡ fits_behind bytes (commands_of out)
          → next_in T (state_of n) bytes ≡ by_room (commands_of out) x y
      unfolding state_of
      by-room x y xe ye =
          by_move ∙ (ap (behind_move (state_of n) bytes) (sym oe)
          ∙ (some-move (state_of n) bytes (commands_of out) (commands-some out) ∙ sym (λ i. by_room (commands_of out) (xe i) (ye i))))

      -- it would pass a size
      pub next-full : not b ≡ true → next_in T (state_of n) bytes ≡ stops true
      next-full k = by-room false (fits_behind bytes (commands_of out)) (sym (not-true b k) ∙ be) refl

      module _ (k : not b ≡ false) {m : ℕ} (me : m ≡ length (bytes_of (commands_of out))) where
        -- it does not fit
        pub next-long : 4096 < bytes + m + 1 → next_in T (state_of n) bytes ≡ stops false
        next-long l = by-room true false (sym (not-false b k) ∙ be) (sym (lt-leb (bytes + length (bytes_of (commands_of out)) + 1) 4096 (omega (arith, l, me))))

        pub next-goes : bytes + m + 1 ≤ 4096 → next_in T (state_of n) bytes ≡ goes (commands_of out)
        next-goes l = by-room true true (sym (not-false b k) ∙ be) (sym (le-leb (bytes + length (bytes_of (commands_of out)) + 1) 4096 (omega (arith, l, me))))
