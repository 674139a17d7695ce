-- The call, test by test. Assumes nothing.
use Rattle.std.specs.Prelude.{ℕ, ◌-◌, ◌≤◌, ◌<◌, Bool, not, ◌&&◌, List, eqb, length, ◌≡◌, refl, Result, Ok, Err, OnOk}
use Rattle.std.proofs.Math.Bool.{cond, false, true}
use Rattle.std.proofs.Math.Dec.{leb}
use Rattle.negotiation.specs.Messages.{message_count}
use Rattle.negotiation.specs.State.{State, within, with_header}
use Rattle.negotiation.specs.laws.State.{state_of}
use Rattle.negotiation.specs.Layout.{state_bytes, zeros}
use Rattle.standing.specs.Standing as R
use Rattle.standing.specs.laws.Standing.{standing_of}
use Rattle.negotiation.specs.Ends.{other_side}
use Rattle.applied.specs.After.{after_message}
use Rattle.take.specs.Commands as C
use Rattle.take.specs.laws.Commands.{taken_of, Room}
use Rattle.std.proofs.Common.{arith, ◌∙◌, ⊎_elim}
use Rattle.std.proofs.Math.Path.{sym, ap, subst}
use borrow.Author.Tests.{eq-eqb, ne_eqb, not-true, not-false, eqb-true, eqb-false, leb-true}
use Rattle.expression.specs.Bytes.{pasted}
use Rattle.word.specs.laws.Bools.{and_parts}
use Rattle.propagation.specs.laws.Flags.{decided}
use Rattle.class.specs.laws.Names.{names_of}
use Rattle.graph.specs.laws.Graph.{nodes_of, edges_of}
use Rattle.graph.specs.laws.Columns.{nodes-length}
use Rattle.states.specs.laws.Brings.{NodesFormed, EdgesFormed}
use Rattle.tables.specs.declared.House.{House}
use Rattle.tables.specs.laws.Tables.{tables_of}
use Rattle.negotiation.specs.declared.Header.{Header}
use Rattle.negotiation.specs.declared.Negotiation.{Negotiation}
use Rattle.negotiation.specs.laws.Layout.{paste-whole, length-zeros}
use Rattle.standing.specs.declared.Restored.{Restored}
use Rattle.damage.specs.Damage.{sound}
use Rattle.damage.specs.laws.Damage.{held-nodes}
use Rattle.take.specs.laws.CommandsKept.{Led}
use Rattle.damage.specs.laws.Going.{sound-count}
use Rattle.take.specs.laws.TakeKept.{turn-led, led-edges}
use Rattle.standing.specs.Turn.{sends}
use Rattle.take.specs.Take.{behind_commands, taken_in, behind_standing, message_size, take_of}
use Rattle.numbers.specs.Answer.{Answer, refused, accepted, answer_of, no_value, buffer_after}
use Rattle.tables.specs.Tables.{Tables}
use Rattle.standing.specs.Buffers.{scratch_left}
use Rattle.numbers.specs.Refusals.{LENGTH, TURN, ENDED}
use Rattle.numbers.specs.Sizes.{SCRATCH-BYTES}

-- what the code's answer is, with the negotiation that it left
unfoldable pub outcome_of : {A : Type 0} → Result A ℕ → Negotiation → Answer State
outcome_of (Ok x) n = accepted (state_of n)
outcome_of (Err k) n = refused k

-- A negotiation and a message

-- a refused one
outcome-refused : {A : Type 0} (r : Result A ℕ) (n : Negotiation) (k : ℕ) → r ≡ Err k → outcome_of r n ≡ refused k
unfolding outcome_of
outcome-refused {A} r n k e = ap (λ (x : Result A ℕ). outcome_of x n) e

pub outcome-accepted : {A : Type 0} (r : Result A ℕ) (n : Negotiation) {x : A} → r ≡ Ok x → outcome_of r n ≡ accepted (state_of n)
unfolding outcome_of
outcome-accepted {A} r n e = ap (λ (y : Result A ℕ). outcome_of y n) e

no_room : {A : Type 0} (r : Result A ℕ) (n : Negotiation) (k : ℕ) → r ≡ Err k → OnOk r (Room n)
no_room {A} r n k e = subst (λ (x : Result A ℕ). OnOk x (Room n)) (sym e) tt

module _ (m : List ℕ) (H : House) (n : Negotiation) where
  by_tests_lem : (a b : Bool) → not (eqb n.header.end 0) ≡ a → not (sends (other_side n.header.side) n.header.messages) ≡ b
      → (t : Answer (State × Bool)) → C.commands_from (length m) (names_of H.names) (other_side n.header.side) m 0 (state_of n) false ≡ t
      → taken_in m (tables_of H) (state_of n) ≡ cond a (refused ENDED) (cond b (refused TURN) (behind_commands (other_side n.header.side) t))
  unfolding taken_in tables_of state_of
  by_tests_lem a b x y t z = λ i. cond (x i) (refused ENDED) (cond (y i) (refused TURN) (behind_commands (other_side n.header.side) (z i)))

  -- already ended
  pub taken-ended : (n' : Negotiation) → (n.header.end ≡ 0 → ⊥) → outcome_of {A = Unit {0}} (Err 22) n' ≡ taken_in m (tables_of H) (state_of n)
  unfolding outcome_of
  taken-ended n' h = sym (by_tests_lem true _ (ap not (ne_eqb n.header.end 0 h)) refl _ refl)

  module _ (z : n.header.end ≡ 0) {s : ℕ} (se : s ≡ other_side n.header.side) {b : Bool} (be : b ≡ sends s n.header.messages) where
    sent : b ≡ sends (other_side n.header.side) n.header.messages
    sent = be ∙ ap (λ (k : ℕ). sends k n.header.messages) se

    -- not that side's turn
    pub taken-turn : (n' : Negotiation) → not b ≡ true → outcome_of {A = Unit {0}} (Err 21) n' ≡ taken_in m (tables_of H) (state_of n)
    unfolding outcome_of
    taken-turn n' h = sym (by_tests_lem false true (ap not (eq-eqb n.header.end 0 z)) (ap not (sym sent) ∙ h) _ refl)

    module _ (bh : not b ≡ false) (t : Result Bool ℕ) (n' : Negotiation)
        (te : taken_of t n' ≡ C.commands_from (length m) (names_of H.names) s m 0 (state_of n) false) where
      by-commands : taken_in m (tables_of H) (state_of n) ≡ behind_commands (other_side n.header.side) (taken_of t n')
      by-commands =
          by_tests_lem false false (ap not (eq-eqb n.header.end 0 z)) (ap not (sym sent) ∙ bh) (taken_of t n')
          (ap (λ (k : ℕ). C.commands_from (length m) (names_of H.names) k m 0 (state_of n) false) (sym se) ∙ sym te)

      -- a command is refused
      pub taken_refused : {k : ℕ} → t ≡ Err k → outcome_of {A = Unit {0}} (Err k) n' ≡ taken_in m (tables_of H) (state_of n)
      unfolding outcome_of taken_of
      taken_refused q = sym (by-commands ∙ ap (λ (x : Result Bool ℕ). behind_commands (other_side n.header.side) (taken_of x n')) q)

      module _ {v : Bool} (tz : t ≡ Ok v) where
        is-taken : taken_of t n' ≡ accepted (state_of n', v)
        unfolding taken_of
        is-taken = ap (λ (x : Result Bool ℕ). taken_of x n') tz

        -- all are carried out
        pub taken-after : (a : Negotiation) (x : Unit {0}) → state_of a ≡ after_message s (state_of n') v false
            → outcome_of (Ok x) a ≡ taken_in m (tables_of H) (state_of n)
        unfolding outcome_of
        taken-after a x ae =
            ap accepted (ae ∙ ap (λ (k : ℕ). after_message k (state_of n') v false) se)
            ∙ sym (by-commands ∙ ap (behind_commands (other_side n.header.side)) is-taken)

        pub after-room : (a : Negotiation) → Room n' → state_of a ≡ after_message s (state_of n') v false → Room a
        unfolding after_message with_header state_of within
        after-room a room ae =
            record {
              sizes = ap within ae ∙ room.sizes;
              formed = subst (λ (S : State). NodesFormed S.nodes) (sym ae) room.formed;
            }

        -- what the commands led to
        pub led : sound (tables_of H) (state_of n) ≡ true → within (state_of n) ≡ true → 0 < H.own
            → Led (names_of H.names) (state_of n) false (state_of n') v
        unfolding tables_of state_of
        led h w own =
            (turn-led (tables_of H) (state_of n) h w own m (sym sent ∙ not-false b bh) (state_of n') v
            (ap (λ (k : ℕ). C.commands_from (length m) (names_of H.names) k m 0 (state_of n) false) (sym se) ∙ sym te ∙ is-taken)).0

        -- what judging the end asks of it
        pub led-ready : sound (tables_of H) (state_of n) ≡ true → within (state_of n) ≡ true → 0 < H.own → Room n'
            → (within (state_of n') ≡ true) × (0 < n'.nodes.count) × (message_count n'.header.messages < 65535)
            × NodesFormed (nodes_of n'.nodes) × EdgesFormed (nodes_of n'.nodes) (edges_of n'.edges)
        unfolding state_of
        led-ready h w own room =
            let l = led h w own in
            let some : 0 < n'.nodes.count = omega (arith, nodes-length n'.nodes, l.some) in (
              room.sizes,
              some,
              omega (arith, ap (λ (x : Header). message_count x.messages) l.header, sound-count (tables_of H) (state_of n) h),
              room.formed,
              led-edges (names_of H.names) (state_of n) false n' v l some,
            )

-- the nodes of an undamaged negotiation have their forms, where none stands too
pub start-formed : (H : House) (n : Negotiation) → within (state_of n) ≡ true → sound (tables_of H) (state_of n) ≡ true → NodesFormed (nodes_of n.nodes)
start-formed H n w h = ⊎_elim
    (λ z. record {
      few = omega (arith, nodes-length n.nodes, eqb-true n.nodes.count 0 z);
      formed = λ i l. absurd
          (omega (arith, nodes-length n.nodes, eqb-true n.nodes.count 0 z));
    })
    (λ z. held-nodes H n w h (omega (arith, eqb-false n.nodes.count 0 z)))
    (decided (eqb n.nodes.count 0))

-- The buffers

-- what a call leaves
abbrev Leaves : List ℕ → List ℕ → Answer State → ℕ → List ℕ → List ℕ → Type 0
Leaves negotiation scratch o r n s = (r ≡ answer_of no_value o) × ((n ≡ buffer_after state_bytes negotiation o) × (s ≡ scratch_left scratch o))

module _ (tables negotiation message scratch : List ℕ) where
  by_size : (b : Bool) → message_size (length message) (length scratch) ≡ b → (s : Answer (Tables × State)) → R.restore_of tables negotiation ≡ s
      → take_of tables negotiation message scratch ≡ cond b (behind_standing message s) (refused LENGTH)
  unfolding take_of
  by_size b x s y = λ i. cond (x i) (behind_standing message (y i)) (refused LENGTH)

  refuses : (k : ℕ) → take_of tables negotiation message scratch ≡ refused k
      → Leaves negotiation scratch (take_of tables negotiation message scratch) k negotiation scratch
  refuses k e = subst (λ (o : Answer State). Leaves negotiation scratch o k negotiation scratch) (sym e) (refl, (refl, refl))

  module _ {b : Bool} (be : b ≡ message_size (length message) (length scratch)) where
    pub take-size : not b ≡ true → Leaves negotiation scratch (take_of tables negotiation message scratch) 1 negotiation scratch
    take-size h = refuses 1 (by_size false (sym be ∙ not-true b h) _ refl)

    module _ (bh : not b ≡ false) where
      sized : message_size (length message) (length scratch) ≡ true
      sized = sym be ∙ not-false b bh

      pub size-parts : (1 ≤ length message) × (length message ≤ 4096) × (length scratch ≡ 4096)
      unfolding message_size
      size-parts =
          let p = and_parts (leb 1 (length message) && leb (length message) 4096) (eqb (length scratch) SCRATCH-BYTES) sized in
          let q = and_parts (leb 1 (length message)) (leb (length message) 4096) p.0 in
          (leb-true 1 (length message) q.0, leb-true (length message) 4096 q.1, eqb-true (length scratch) SCRATCH-BYTES p.1)

      module _ (r : Result Restored ℕ) (re : standing_of r ≡ R.restore_of tables negotiation) where
        pub take-unrestored : {k : ℕ} → r ≡ Err k → Leaves negotiation scratch (take_of tables negotiation message scratch) k negotiation scratch
        unfolding standing_of
        take-unrestored {k} q = refuses k (by_size true sized (refused k) (sym re ∙ ap standing_of q))

        module _ {held : Restored} (q : r ≡ Ok held) {A : Type 0} (t : Result A ℕ) (n' : Negotiation)
            (te : outcome_of t n' ≡ taken_in message (tables_of held.house) (state_of held.negotiation)) where
          is-outcome : take_of tables negotiation message scratch ≡ outcome_of t n'
          unfolding standing_of
          is-outcome = by_size true sized (accepted (tables_of held.house, state_of held.negotiation)) (sym re ∙ ap standing_of q) ∙ sym te

          pub take-refused : {k : ℕ} → t ≡ Err k → Leaves negotiation scratch (take_of tables negotiation message scratch) k negotiation scratch
          take-refused {k} e = refuses k (is-outcome ∙ outcome-refused t n' k e)

          pub take-accepted : {x : A} {n s : List ℕ} → t ≡ Ok x → n ≡ state_bytes (state_of n') → s ≡ pasted scratch 0 (zeros (4096 - 0))
              → Leaves negotiation scratch (take_of tables negotiation message scratch) 0 n s
          take-accepted {x} {n} {s} e ne se =
              let l : length scratch ≡ 4096 = size-parts.2 in
              subst (λ (o : Answer State). Leaves negotiation scratch o 0 n s) (sym (is-outcome ∙ outcome-accepted t n' e))
              (refl, (ne, se ∙ paste-whole scratch (zeros 4096) (length-zeros 4096 ∙ sym l) ∙ ap zeros (sym l)))
