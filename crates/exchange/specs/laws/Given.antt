-- A reply is given exactly where the call allows it, and is what the rules yield. Assumes nothing.
use Prim.Native.Nat.{ℕ}
use Rattle.std.specs.Prelude.{◌≡◌, ◌↔◌, Bool, not, eqb, length}
use Rattle.std.proofs.Math.Path.{refl, sym}
use Rattle.std.proofs.Common.{◌∙◌, ap, eqb-true, eq-eqb}
use Rattle.std.proofs.Math.Bool.{true, false, cond}
use mathlib.Core.List.{List}
use Rattle.word.specs.laws.Bools.{false-true}
use Rattle.numbers.specs.Refusals.{LENGTH, TURN, ENDED}
use Rattle.numbers.specs.Answer.{Answer, refused, accepted}
use Rattle.numbers.specs.laws.Answer.{is_accepted, first_of, second_of}
use Rattle.tables.specs.Tables.{Tables}
use Rattle.tables.specs.laws.Accepted.{accepted-sound}
use Rattle.message.specs.Message.{message_bytes}
use Rattle.negotiation.specs.State.{State}
use Rattle.standing.specs.Standing.{restore_of}
use Rattle.standing.specs.Turn.{sends}
use Rattle.standing.specs.Holds.{Holds}
use Rattle.standing.specs.laws.Exactly.{restored-exactly}
use Rattle.reply.specs.Reply.{reply_in, replied_state, reply_bytes, replied_in, behind_standing, reply_size, reply_of}
use Rattle.reply.proofs.laws.ReplyLegal.{reply-updates}
use Rattle.exchange.specs.Given.{ReplyGiven}

module _ (tables negotiation reply scratch m : List ℕ) (A : State) where
  to-given : reply_of tables negotiation reply scratch ≡ accepted (m, A) → ReplyGiven tables negotiation reply scratch m A
  unfolding reply_of replied_in reply_bytes
  to-given h = by_size (reply_size (length reply) (length scratch)) refl h
    where
      by_turn : (T : Tables) (S : State) → reply_size (length reply) (length scratch) ≡ true → restore_of tables negotiation ≡ accepted (T, S)
          → S.header.end ≡ 0 → (b : Bool) → sends S.header.side S.header.messages ≡ b
          → cond {A = Answer (List ℕ × State)} (not b) (refused TURN) (accepted (message_bytes (reply_in T S).commands, replied_state (reply_in T S)))
          ≡ accepted (m, A)
          → ReplyGiven tables negotiation reply scratch m A
      by_turn T S z e g true x q =
          let w : Holds tables negotiation T S = (restored-exactly tables negotiation T S).0 e in
          record {
            sized = z;
            house = T;
            state = S;
            held = w;
            going = g;
            turn = x;
            bytes = sym (ap (first_of m) q);
            updates = reply-updates T (accepted-sound tables T w.house) S w.undamaged w.sizes x;
            after = sym (ap (second_of A) q);
          }
      by_turn T S z e g false x q = absurd (false-true (ap is_accepted q))

      by_end : (T : Tables) (S : State) → reply_size (length reply) (length scratch) ≡ true → restore_of tables negotiation ≡ accepted (T, S)
          → (b : Bool) → eqb S.header.end 0 ≡ b
          → cond {A = Answer (List ℕ × State)} (not b) (refused ENDED)
          (cond (not (sends S.header.side S.header.messages)) (refused TURN)
          (accepted (message_bytes (reply_in T S).commands, replied_state (reply_in T S))))
          ≡ accepted (m, A) → ReplyGiven tables negotiation reply scratch m A
      by_end T S z e true x q = by_turn T S z e (eqb-true S.header.end 0 x) (sends S.header.side S.header.messages) refl q
      by_end T S z e false x q = absurd (false-true (ap is_accepted q))

      by-standing : reply_size (length reply) (length scratch) ≡ true → (a : Answer (Tables × State)) → restore_of tables negotiation ≡ a
          → behind_standing a ≡ accepted (m, A) → ReplyGiven tables negotiation reply scratch m A
      by-standing z (refused k) e q = absurd (false-true (ap is_accepted q))
      by-standing z (accepted (T, S)) e q = by_end T S z e (eqb S.header.end 0) refl q

      by_size : (b : Bool) → reply_size (length reply) (length scratch) ≡ b
          → cond b (behind_standing (restore_of tables negotiation)) (refused LENGTH) ≡ accepted (m, A) → ReplyGiven tables negotiation reply scratch m A
      by_size true x q = by-standing x (restore_of tables negotiation) refl q
      by_size false x q = absurd (false-true (ap is_accepted q))

  from-given : ReplyGiven tables negotiation reply scratch m A → reply_of tables negotiation reply scratch ≡ accepted (m, A)
  unfolding reply_of replied_in reply_bytes
  from-given w =
      let S : State = w.state in
      let given : List ℕ × State = (message_bytes (reply_in w.house S).commands, replied_state (reply_in w.house S)) in
      (λ i. cond (w.sized i) (behind_standing ((restored-exactly tables negotiation w.house S).1 w.held i)) (refused LENGTH))
      ∙ (λ i. cond (not (eq-eqb S.header.end 0 w.going i)) (refused ENDED)
      (cond {A = Answer (List ℕ × State)} (not (w.turn i)) (refused TURN) (accepted given)))
      ∙ (λ i. accepted (sym w.bytes i, sym w.after i))

  -- a reply is given exactly where lengths, tables, soundness, turn and no end allow it, and it is what the rules yield in order
  pub given-exactly : (reply_of tables negotiation reply scratch ≡ accepted (m, A)) ↔ ReplyGiven tables negotiation reply scratch m A
  given-exactly = (to-given, from-given)
