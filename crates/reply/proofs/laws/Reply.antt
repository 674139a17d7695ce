-- A whole reply: what the code leaves is what the rules yield. Assumes nothing.
use Rattle.std.specs.Prelude.{ℕ, ◌+◌, ◌≤◌, ◌<◌, ◌≡◌, refl, Bool, eqb, drop, Result, Ok, Err}
use Rattle.std.proofs.Common.{arith, ◌∙◌, subst}
use Rattle.std.proofs.Math.Path.{sym, ap}
use Rattle.std.proofs.Math.Bool.{true, false, not, cond}
use mathlib.Core.List.{List, [], ◌∷◌, ◌++◌, append-nil}
use borrow.Author.Tests.{eq-eqb, ne_eqb, lt-ltb, not-false, eqb-true, eqb-false}
use Rattle.std.proofs.Math.ListN.{length, length-append}
use Rattle.std.proofs.Math.Seq.{paste-zero, take-length}
use Rattle.expression.specs.declared.Role.{Role}
use Rattle.expression.specs.declared.Expression.TheVariants as E
use Rattle.expression.specs.Bytes.{pasted}
use Rattle.class.specs.declared.Name.{Name}
use Rattle.class.specs.laws.Names.{names_of}
use Rattle.tables.specs.declared.House.{House}
use Rattle.tables.specs.Tables.{Tables}
use Rattle.tables.specs.laws.Tables.{tables_of}
use Rattle.tables.specs.Accepted.{Sound}
use Rattle.graph.specs.laws.Graph.{nodes_of, edges_of}
use Rattle.graph.specs.laws.Columns.{nodes-length}
use Rattle.states.specs.laws.Brings.{NodesFormed, EdgesFormed}
use Rattle.message.specs.declared.Command.{Command}
use Rattle.message.specs.declared.Command.TheVariants.{Open, End}
use Rattle.message.specs.Command.{command_bytes, size_of}
use Rattle.message.specs.laws.CommandExact.{command-length}
use Rattle.negotiation.specs.declared.Header.{Header}
use Rattle.negotiation.specs.declared.Negotiation.{Negotiation}
use Rattle.negotiation.specs.Messages.{message_count}
use Rattle.negotiation.specs.State.{State, within, with_header}
use Rattle.negotiation.specs.laws.State.{state_of}
use Rattle.damage.specs.Damage.{sound}
use Rattle.applied.specs.Step.{stepped, has_room}
use Rattle.applied.specs.After.{after_message}
use Rattle.message.specs.Message.{bytes_of, message_bytes}
use Rattle.standing.specs.Turn.{sends}
use Rattle.damage.specs.laws.Going.{sound-count}
use Rattle.moves.specs.Initial.{initial_state}
use Rattle.moves.specs.Carried.{carried}
use Rattle.legality.specs.laws.Going.{Going}
use Rattle.legality.specs.laws.Kept.{sound-going, opening-going, updates-header}
use Rattle.reply.specs.declared.Written.{Written}
use Rattle.reply.specs.Reply.{Replied, opening, reply_in, replied_state, reply_bytes, replied_in}
use Rattle.reply.specs.laws.Outgoing.{bytes-append, one-length}
use Rattle.reply.specs.laws.Carry.{paste-length, pasted-behind}
use Rattle.reply.specs.laws.Turns.{behind, rest_from, bytes-behind}
use Rattle.reply.proofs.laws.Turns.{from-rest}
use Rattle.reply.specs.laws.Turn.{going-ready}
use Rattle.reply.specs.laws.Writing.{Gives}
use Rattle.reply.proofs.laws.Moved.{reply-moved}
use Rattle.reply.proofs.laws.ReplyLegal.{opens-first, reply-updates}
use Rattle.numbers.specs.Answer.{refused, accepted}
use Rattle.numbers.specs.Refusals.{TURN, ENDED}
use Rattle.reply.specs.laws.Reply.{first_open, Begins, Replies}

module _ (T : Tables) (t : Sound T) (S : State) (h : sound T S ≡ true) (w : within S ≡ true) (turn : sends S.header.side S.header.messages ≡ true) where
  begun-going : Going T (carried S.header.side S (opening T S))
  begun-going = go (eqb (length S.nodes) 0) refl
    where
      go : (b : Bool) → eqb (length S.nodes) 0 ≡ b → Going T (carried S.header.side S (cond b (first_open T.names S.header.wanted ∷ []) []))
      go true e =
          let z : length S.nodes ≡ 0 = eqb-true (length S.nodes) 0 e in opening-going T t S h w (opens-first T t S h w turn z) z
      go false e = sound-going T t S h w (eqb-false (length S.nodes) 0 e)

  module _ {d₀ d₁ : List ℕ} (n : Negotiation) (at : ℕ) (g : Begins T S d₀ n at d₁) (long : 4096 ≤ length d₀) where
    -- what going on from there asks
    pub begun-ready : Going T (state_of n) × (at + 1 ≤ 4096) × (4096 ≤ length d₁)
    begun-ready = (
      subst (Going T) (sym g.state) begun-going,
      omega (arith, g.few),
      omega (arith, long, ap length g.bytes, paste-length d₀ 0 (bytes_of (opening T S)) (omega (arith, g.size, g.few, long))),
    )

    pub begun-gives : {d : List ℕ} (n' : Negotiation) (r : Written) → Gives T (rest_from 4096 T (state_of n) at) at d₁ n' r d
        → Gives T (reply_in T S) 0 d₀ n' r d
    unfolding reply_in
    begun-gives {d} n' r k =
        let rest : Replied = rest_from 4096 T (state_of n) at in
        let all : reply_in T S ≡ behind (opening T S) rest = from-rest 4096 T (carried S.header.side S (opening T S)) (opening T S)
        ∙ (λ i. behind (opening T S) (rest_from 4096 T (sym g.state i) (sym g.size i))) in
        let cs : opening T S ++ rest.commands ≡ (reply_in T S).commands = sym (ap (λ (x : Replied). x.commands) all) in
        let end : at ≡ 0 + length (bytes_of (opening T S)) = omega (arith, g.size) in
        record {
          state = k.state ∙ sym (ap (λ (x : Replied). x.state) all);
          full = k.full ∙ sym (ap (λ (x : Replied). x.full) all);
          size = omega (arith, k.size, g.size, bytes-behind (opening T S) rest.commands) ∙ ap (λ (l : List Command). 0 + length (bytes_of l)) cs;
          bytes =
              k.bytes ∙ pasted-behind d₀ d₁ 0 at (opening T S) rest.commands g.bytes end (omega (arith, k.size, k.most, g.size, long))
              ∙ ap (λ (l : List Command). pasted d₀ 0 (bytes_of l)) cs;
          most = k.most;
          going = k.going;
        }

-- The end

-- an answer of one kind is none of the other
same-value : {a b : ℕ} → ◌≡◌ {A = Result ℕ ℕ} (Ok a) (Ok b) → a ≡ b
same-value e = cc

same-error : {a b : ℕ} → ◌≡◌ {A = Result ℕ ℕ} (Err a) (Err b) → a ≡ b
same-error e = cc

error-value : {a b : ℕ} → ◌≡◌ {A = Result ℕ ℕ} (Err a) (Ok b) → ⊥
error-value e = cc

value-error : {a b : ℕ} → ◌≡◌ {A = Result ℕ ℕ} (Ok a) (Err b) → ⊥
value-error e = cc

after-within : (v : ℕ) (S : State) (m f : Bool) {U : State} → U ≡ after_message v S m f → within S ≡ true → within U ≡ true
unfolding after_message with_header within
after-within v S m f e w = ap within e ∙ w

message-end : (cs : List Command) → message_bytes cs ≡ bytes_of cs ++ command_bytes End
message-end cs = bytes-append cs (End ∷ []) ∙ ap (λ (l : List ℕ). bytes_of cs ++ l) (append-nil (command_bytes End))

-- written from the start
pasted-front : (d xs : List ℕ) → pasted d 0 xs ≡ xs ++ drop (length xs) d
pasted-front d xs = let z : 0 + length xs ≡ length xs = omega arith in λ i. take-length xs i ++ drop (z i) d

module _ (T : Tables) (n : Negotiation) where
  by_tests_lem : (a b : Bool) → not (eqb n.header.end 0) ≡ a → not (sends n.header.side n.header.messages) ≡ b
      → replied_in T (state_of n) ≡ cond a (refused ENDED)
      (cond b (refused TURN) (accepted (reply_bytes (reply_in T (state_of n)), replied_state (reply_in T (state_of n)))))
  unfolding replied_in state_of
  by_tests_lem a b x y =
      λ i. cond (x i) (refused ENDED) (cond (y i) (refused TURN) (accepted (reply_bytes (reply_in T (state_of n)), replied_state (reply_in T (state_of n)))))

  not-given : (d : List ℕ) (n' : Negotiation) (k : ℕ) → replied_in T (state_of n) ≡ refused k → Replies T (state_of n) d n' (Err k) d
  not-given d n' k q =
      record {
        refuses = λ j h. (q ∙ ap refused (same-error h), refl);
        gives = λ at h. absurd (error-value h);
        written = λ at h. absurd (error-value h);
        size = λ at h. absurd (error-value h);
        few = λ at h. absurd (error-value h);
        sizes = λ at h. absurd (error-value h);
      }

  -- already ended
  pub replied-ended : (d : List ℕ) (n' : Negotiation) → (n.header.end ≡ 0 → ⊥) → Replies T (state_of n) d n' (Err 22) d
  replied-ended d n' h = not-given d n' 22 (by_tests_lem true _ (ap not (ne_eqb n.header.end 0 h)) refl)

  module _ (z : n.header.end ≡ 0) {b : Bool} (be : b ≡ sends n.header.side n.header.messages) where
    -- not that side's turn
    pub replied-turn : (d : List ℕ) (n' : Negotiation) → not b ≡ true → Replies T (state_of n) d n' (Err 21) d
    replied-turn d n' h = not-given d n' 21 (by_tests_lem false true (ap not (eq-eqb n.header.end 0 z)) (ap not (sym be) ∙ h))

    module _ (h : not b ≡ false) where
      pub in-turn : sends n.header.side n.header.messages ≡ true
      in-turn = sym be ∙ not-false b h

      module _ (t : Sound T) (s : sound T (state_of n) ≡ true) (w : within (state_of n) ≡ true) {d₀ d₁ : List ℕ} (n' : Negotiation) (q : Written)
          (g : Gives T (reply_in T (state_of n)) 0 d₀ n' q d₁) where
        same-header : n'.header ≡ n.header
        unfolding state_of
        same-header = ap (λ (S : State). S.header) g.state ∙ updates-header (reply-updates T t (state_of n) s w in-turn)

        same-side : n.header.side ≡ (state_of n').header.side
        unfolding state_of
        same-side = ap (λ (x : Header). x.side) (sym same-header)

        -- what judging the end asks
        pub after-ready : (within (state_of n') ≡ true) × (0 < n'.nodes.count)
            × (message_count n'.header.messages < 65535)
            × NodesFormed (nodes_of n'.nodes) × EdgesFormed (nodes_of n'.nodes) (edges_of n'.edges)
        unfolding state_of
        after-ready =
            let r = going-ready T n' g.going in
            (g.going.sizes, r.0, omega (arith, ap (λ (x : Header). message_count x.messages) same-header, sound-count T (state_of n) s), r.3, r.4)

        module _ (long : 4096 ≤ length d₀) where
          same_length : length d₁ ≡ length d₀
          same_length = ap length g.bytes ∙ paste-length d₀ 0 (bytes_of (reply_in T (state_of n)).commands) (omega (arith, g.size, g.most, long))

          pub end_fits : q.at + 1 ≤ length d₁
          end_fits = omega (arith, same_length, g.most, long)

          -- as long as before
          pub end-length : {d : List ℕ} → d ≡ pasted d₁ q.at (command_bytes End) → length d ≡ length d₀
          end-length de = ap length de ∙ paste-length d₁ q.at (command_bytes End) (omega (arith, end_fits, command-length End)) ∙ same_length

          pub replied-given : {d : List ℕ} (a : Negotiation)
              → state_of a ≡ after_message n.header.side (state_of n') (not (eqb q.at 0)) q.full → d ≡ pasted d₁ q.at (command_bytes End)
              → Replies T (state_of n) d₀ a (Ok (q.at + 1)) d
          unfolding reply_bytes replied_state
          replied-given {d} a ae de =
              let A : Replied = reply_in T (state_of n) in
              let size : q.at ≡ length (bytes_of A.commands) = omega (arith, g.size) in
              let behindBytes : q.at ≡ 0 + length (bytes_of A.commands) = g.size in
              let state : state_of a ≡ replied_state A = ae
              ∙ ap (λ (v : ℕ). after_message v (state_of n') (not (eqb q.at 0)) q.full) same-side
              ∙ (λ i. after_message (g.state i).header.side (g.state i) (reply-moved T (state_of n) size i) (g.full i)) in
              let all : length (message_bytes A.commands) ≡ length (bytes_of A.commands) + 1 = ap length (message-end A.commands)
              ∙ length-append (bytes_of A.commands) (command_bytes End) ∙ ap (λ (k : ℕ). length (bytes_of A.commands) + k) (command-length End) in
              let written : d ≡ pasted d₀ 0 (message_bytes A.commands)
              = de ∙ ap (pasted d₁ q.at) (sym (append-nil (command_bytes End)))
              ∙ pasted-behind d₀ d₁ 0 q.at A.commands (End ∷ []) g.bytes behindBytes (omega (arith, size, one-length End, g.most, long))
              ∙ ap (pasted d₀ 0) (bytes-append A.commands (End ∷ [])
              ∙ ap (λ (l : List ℕ). bytes_of A.commands ++ l) (append-nil (command_bytes End)) ∙ sym (message-end A.commands)) in
              record {
                refuses = λ k h. absurd (value-error h);
                gives =
                    λ at h. by_tests_lem false false (ap not (eq-eqb n.header.end 0 z)) (ap not in-turn)
                    ∙ ap (λ (x : State). accepted (reply_bytes A, x)) (sym state);
                written = λ at h. written ∙ pasted-front d₀ (message_bytes A.commands);
                size = λ at h. omega (arith, same-value h, size, all);
                few = λ at h. omega (arith, same-value h, g.most);
                sizes = λ at h. after-within n.header.side (state_of n') (not (eqb q.at 0)) q.full ae g.going.sizes;
              }
