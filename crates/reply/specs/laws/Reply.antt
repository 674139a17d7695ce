-- The call, test by test. Assumes nothing.
use Rattle.std.specs.Prelude.{ℕ, ◌+◌, ◌≤◌, ◌<◌, ◌≡◌, refl, Bool, eqb, drop, Result, Ok, Err}
use Rattle.std.proofs.Common.{arith, ◌∙◌, subst}
use Rattle.std.proofs.Math.Path.{sym, ap}
use Rattle.std.proofs.Math.Bool.{true, false, not, cond}
use mathlib.Core.List.{List, [], ◌∷◌, ◌++◌, append-nil}
use borrow.Author.Tests.{eq-eqb, ne_eqb, lt-ltb, not-false, eqb-true, eqb-false}
use Rattle.std.proofs.Math.ListN.{length, length-append}
use Rattle.std.proofs.Math.Seq.{paste-zero, take-length}
use Rattle.expression.specs.declared.Role.{Role}
use Rattle.expression.specs.declared.Expression.TheVariants as E
use Rattle.expression.specs.Bytes.{pasted}
use Rattle.class.specs.declared.Name.{Name}
use Rattle.class.specs.laws.Names.{names_of}
use Rattle.tables.specs.declared.House.{House}
use Rattle.tables.specs.Tables.{Tables}
use Rattle.tables.specs.laws.Tables.{tables_of}
use Rattle.tables.specs.Accepted.{Sound}
use Rattle.graph.specs.laws.Graph.{nodes_of, edges_of}
use Rattle.graph.specs.laws.Columns.{nodes-length}
use Rattle.states.specs.laws.Brings.{NodesFormed, EdgesFormed}
use Rattle.message.specs.declared.Command.{Command}
use Rattle.message.specs.declared.Command.TheVariants.{Open, End}
use Rattle.message.specs.Command.{command_bytes, size_of}
use Rattle.message.specs.laws.CommandExact.{command-length}
use Rattle.negotiation.specs.declared.Header.{Header}
use Rattle.negotiation.specs.declared.Negotiation.{Negotiation}
use Rattle.negotiation.specs.Messages.{message_count}
use Rattle.negotiation.specs.State.{State, within, with_header}
use Rattle.negotiation.specs.laws.State.{state_of}
use Rattle.damage.specs.Damage.{sound}
use Rattle.applied.specs.Step.{stepped, has_room}
use Rattle.applied.specs.After.{after_message}
use Rattle.message.specs.Message.{bytes_of, message_bytes}
use Rattle.standing.specs.Turn.{sends}
use Rattle.damage.specs.laws.Going.{sound-count}
use Rattle.moves.specs.Initial.{initial_state}
use Rattle.moves.specs.Carried.{carried}
use Rattle.legality.specs.laws.Going.{Going}
use Rattle.legality.specs.laws.Kept.{sound-going, opening-going, updates-header}
use Rattle.reply.specs.declared.Written.{Written}
use Rattle.reply.specs.Reply.{Replied, opening, reply_in, replied_state, reply_bytes, replied_in}
use Rattle.reply.specs.laws.Outgoing.{bytes-append, one-length}
use Rattle.reply.specs.laws.Carry.{paste-length, pasted-behind}
use Rattle.reply.specs.laws.Turns.{behind, rest_from, bytes-behind}
use Rattle.reply.specs.laws.Turn.{going-ready}
use Rattle.reply.specs.laws.Writing.{Gives}
use Rattle.numbers.specs.Answer.{refused, accepted}
use Rattle.numbers.specs.Refusals.{TURN, ENDED}

-- The open

abbrev pub first_open : List Name → Role → Command
first_open ns wanted = Open (record { role = wanted; state = initial_state ns true (E.Role wanted) })

pub first-is : (H : House) (wanted : Role) {s : ℕ} → s ≡ initial_state (names_of H.names) true (E.Role wanted)
    → Open (record { role = wanted; state = s }) ≡ first_open (tables_of H).names wanted
unfolding tables_of
first-is H wanted e = λ i. Open (record { role = wanted; state = e i })

-- a reply begins, with the mediator's open where no node stands
pub record Begins (T : Tables) (S : State) (d₀ : List ℕ) (n : Negotiation) (at : ℕ) (d : List ℕ) : Type 0 where
  pub state : state_of n ≡ carried S.header.side S (opening T S)
  pub size : at ≡ length (bytes_of (opening T S))
  pub bytes : d ≡ pasted d₀ 0 (bytes_of (opening T S))
  pub few : at ≤ 6

module _ (T : Tables) (n : Negotiation) where
  opens : (b : Bool) → eqb (length (state_of n).nodes) 0 ≡ b → opening T (state_of n) ≡ cond b (first_open T.names n.header.wanted ∷ []) []
  unfolding state_of
  opens b e = ap (λ (x : Bool). cond x (first_open T.names n.header.wanted ∷ []) []) e

  pub begins-none : (d : List ℕ) → (n.nodes.count ≡ 0 → ⊥) → Begins T (state_of n) d n 0 d
  unfolding state_of
  begins-none d h =
      let z : [] ≡ opening T (state_of n) = sym (opens false (ne_eqb (length (nodes_of n.nodes)) 0 (λ y. h (sym (nodes-length n.nodes) ∙ y)))) in
      record {
        state = ap (carried n.header.side (state_of n)) z;
        size = ap (λ (l : List Command). length (bytes_of l)) z;
        bytes = paste-zero d 0 [] ∙ ap (λ (l : List Command). pasted d 0 (bytes_of l)) z;
        few = omega arith;
      }

  module _ {c : Command} (ce : c ≡ first_open T.names n.header.wanted) where
    first-size : size_of c ≡ 6
    first-size = ap size_of ce

    pub open-fits : (d : List ℕ) → 4096 ≤ length d → 0 + size_of c ≤ length d
    open-fits d l = omega (arith, first-size, l)

    module _ (z : n.nodes.count ≡ 0) where
      pub open-room : has_room (state_of n) c ≡ true
      unfolding has_room state_of
      open-room = ap (has_room (state_of n)) ce ∙ lt-ltb (length (nodes_of n.nodes)) 128 (omega (arith, nodes-length n.nodes, z))

      pub begins-open : {d e : List ℕ} (m : Negotiation) {k : ℕ} → e ≡ pasted d 0 (command_bytes c)
          → state_of m ≡ stepped (state_of n) n.header.side c → k ≡ size_of c → Begins T (state_of n) d m k e
      unfolding state_of
      begins-open {d} m ee me ke =
          let o : c ∷ [] ≡ opening T (state_of n) = ap (λ (x : Command). x ∷ []) ce
          ∙ sym (opens true (eq-eqb (length (nodes_of n.nodes)) 0 (nodes-length n.nodes ∙ z))) in
          record {
            state = me ∙ ap (carried n.header.side (state_of n)) o;
            size = ke ∙ sym (one-length c) ∙ ap (λ (l : List Command). length (bytes_of l)) o;
            bytes = ee ∙ ap (pasted d 0) (sym (append-nil (command_bytes c))) ∙ ap (λ (l : List Command). pasted d 0 (bytes_of l)) o;
            few = omega (arith, ke, first-size);
          }

-- A whole reply

pub turn-of : (n : Negotiation) → sends n.header.side n.header.messages ≡ true → sends (state_of n).header.side (state_of n).header.messages ≡ true
unfolding state_of
turn-of n h = h

-- by the same tables
module _ {K H : House} (e : K ≡ H) where
  pub own-going : (S : State) → Going (tables_of H) S → Going (tables_of K) S
  own-going S g = subst (λ (X : House). Going (tables_of X) S) (sym e) g

  pub own-gives : (S : State) (at : ℕ) {d₀ d : List ℕ} (n : Negotiation) (r : Written)
      → Gives (tables_of K) (rest_from 4096 (tables_of K) S at) at d₀ n r d
      → Gives (tables_of H) (rest_from 4096 (tables_of H) S at) at d₀ n r d
  own-gives S at {d₀} {d} n r g = subst (λ (X : House). Gives (tables_of X) (rest_from 4096 (tables_of X) S at) at d₀ n r d) e g

-- the code's answer is what a reply in this state comes to
pub record Replies (T : Tables) (S : State) (d₀ : List ℕ) (n : Negotiation) (r : Result ℕ ℕ) (d : List ℕ) : Type 0 where
  pub refuses : (k : ℕ) → r ≡ Err k → (replied_in T S ≡ refused k) × (d ≡ d₀)
  pub gives : (at : ℕ) → r ≡ Ok at → replied_in T S ≡ accepted (reply_bytes (reply_in T S), state_of n)
  pub written : (at : ℕ) → r ≡ Ok at → d ≡ reply_bytes (reply_in T S) ++ drop (length (reply_bytes (reply_in T S))) d₀
  pub size : (at : ℕ) → r ≡ Ok at → at ≡ length (reply_bytes (reply_in T S))
  pub few : (at : ℕ) → r ≡ Ok at → at ≤ 4096
  pub sizes : (at : ℕ) → r ≡ Ok at → within (state_of n) ≡ true
