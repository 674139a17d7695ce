-- A reply is refused exactly for its reason. Assumes nothing.
use Prim.Native.Nat.{ℕ}
use Rattle.std.proofs.Math.Path.{◌≡◌, refl, sym, ap}
use Rattle.std.proofs.Common.{◌∙◌, eqb-true, eq-eqb, ne_eqb}
use Rattle.std.specs.Prelude.{◌↔◌, Bool, true, false, not, List, eqb, length}
use Rattle.std.proofs.Math.Bool.{cond}
use Rattle.std.proofs.lemmas.Bool.{eqb-false}
use Rattle.word.specs.laws.Bools.{false-true}
use Rattle.numbers.specs.Refusals.{LENGTH, TURN, ENDED}
use Rattle.numbers.specs.Answer.{Answer, refused, accepted}
use Rattle.numbers.specs.laws.Answer.{is_refused, number_of}
use Rattle.tables.specs.Tables.{Tables}
use Rattle.negotiation.specs.State.{State}
use Rattle.standing.specs.Standing.{restore_of}
use Rattle.standing.specs.Turn.{sends}
use Rattle.standing.specs.Holds.{Holds}
use Rattle.standing.specs.laws.Exactly.{restored-exactly}
use Rattle.standing.specs.laws.Unrestored.{unrestored-exactly}
use Rattle.reply.specs.Reply.{reply_in, replied_state, reply_bytes, replied_in, behind_standing, reply_size, reply_of}
use Rattle.exchange.specs.Given.{ReplyRefused, size, unrestored, ended, out-of-turn}

module _ (tables negotiation reply scratch : List ℕ) (k : ℕ) where
  to-refused : reply_of tables negotiation reply scratch ≡ refused k → ReplyRefused tables negotiation reply scratch k
  unfolding reply_of replied_in
  to-refused h = by_size (reply_size (length reply) (length scratch)) refl h
    where
      number : {A : Type 0} {j : ℕ} → ◌≡◌ {A = Answer A} (refused j) (refused k) → k ≡ j
      number q = sym (ap number_of q)

      by_turn : (T : Tables) (S : State) → reply_size (length reply) (length scratch) ≡ true → Holds tables negotiation T S → S.header.end ≡ 0
          → (b : Bool) → sends S.header.side S.header.messages ≡ b
          → cond {A = Answer (List ℕ × State)} (not b) (refused TURN) (accepted (reply_bytes (reply_in T S), replied_state (reply_in T S))) ≡ refused k
          → ReplyRefused tables negotiation reply scratch k
      by_turn T S z w g true x q = absurd (false-true (ap is_refused q))
      by_turn T S z w g false x q = out-of-turn z w g x (number q)

      by_end : (T : Tables) (S : State) → reply_size (length reply) (length scratch) ≡ true → Holds tables negotiation T S
          → (b : Bool) → eqb S.header.end 0 ≡ b
          → cond {A = Answer (List ℕ × State)} (not b) (refused ENDED)
          (cond (not (sends S.header.side S.header.messages)) (refused TURN)
          (accepted (reply_bytes (reply_in T S), replied_state (reply_in T S))))
          ≡ refused k → ReplyRefused tables negotiation reply scratch k
      by_end T S z w true x q = by_turn T S z w (eqb-true S.header.end 0 x) (sends S.header.side S.header.messages) refl q
      by_end T S z w false x q = ended z w (eqb-false S.header.end 0 x) (number q)

      by-standing : reply_size (length reply) (length scratch) ≡ true → (a : Answer (Tables × State)) → restore_of tables negotiation ≡ a
          → behind_standing a ≡ refused k → ReplyRefused tables negotiation reply scratch k
      by-standing z (refused j) e q = unrestored z ((unrestored-exactly tables negotiation k).0 (e ∙ ap refused (sym (number q))))
      by-standing z (accepted (T, S)) e q = by_end T S z ((restored-exactly tables negotiation T S).0 e) (eqb S.header.end 0) refl q

      by_size : (b : Bool) → reply_size (length reply) (length scratch) ≡ b
          → cond b (behind_standing (restore_of tables negotiation)) (refused LENGTH) ≡ refused k → ReplyRefused tables negotiation reply scratch k
      by_size true x q = by-standing x (restore_of tables negotiation) refl q
      by_size false x q = size x (number q)

  from-refused : ReplyRefused tables negotiation reply scratch k → reply_of tables negotiation reply scratch ≡ refused k
  unfolding reply_of replied_in
  from-refused (size z e) = (λ i. cond (z i) (behind_standing (restore_of tables negotiation)) (refused LENGTH)) ∙ ap refused (sym e)
  from-refused (unrestored z e) = λ i. cond (z i) (behind_standing ((unrestored-exactly tables negotiation k).1 e i)) (refused LENGTH)
  from-refused (ended {T} {S} z w g e) =
      (λ i. cond (z i) (behind_standing ((restored-exactly tables negotiation T S).1 w i)) (refused LENGTH))
      ∙ ap (λ (b : Bool). cond {A = Answer (List ℕ × State)} (not b) (refused ENDED)
      (cond (not (sends S.header.side S.header.messages)) (refused TURN) (accepted (reply_bytes (reply_in T S), replied_state (reply_in T S)))))
      (ne_eqb S.header.end 0 g)
      ∙ ap refused (sym e)
  from-refused (out-of-turn {T} {S} z w g x e) =
      (λ i. cond (z i) (behind_standing ((restored-exactly tables negotiation T S).1 w i)) (refused LENGTH))
      ∙ (λ i. cond {A = Answer (List ℕ × State)} (not (eq-eqb S.header.end 0 g i)) (refused ENDED)
      (cond (not (x i)) (refused TURN) (accepted (reply_bytes (reply_in T S), replied_state (reply_in T S)))))
      ∙ ap refused (sym e)

  -- a reply is refused with a number exactly where its reason holds and no earlier one does
  pub reply-refused-exactly : (reply_of tables negotiation reply scratch ≡ refused k) ↔ ReplyRefused tables negotiation reply scratch k
  reply-refused-exactly = (to-refused, from-refused)
