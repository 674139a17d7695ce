-- The other end takes what we reply, and reaches the same graph. Assumes nothing.
use Prim.Native.Nat.{ℕ}
use Rattle.std.proofs.Common.{arith, sym, ◌∙◌}
use Rattle.std.specs.Prelude.{◌≡◌, Bool, not, length}
use Rattle.std.proofs.Math.Path.{refl, ap, subst}
use Rattle.std.proofs.Math.Bool.{true, false, cond}
use mathlib.Core.List.{List}
use borrow.Author.Tests.{eq-eqb, eqb-true, eqb-false}
use Rattle.std.proofs.Math.Dec.{eqb}
use Rattle.class.specs.declared.Name.{Name}
use Rattle.class.specs.Names.{class_of}
use Rattle.tables.specs.Tables.{Tables}
use Rattle.tables.specs.Accepted.{Sound}
use Rattle.message.specs.declared.Command.TheVariants.{End}
use Rattle.negotiation.specs.declared.Header.{Header}
use Rattle.negotiation.specs.Messages.{counted}
use Rattle.negotiation.specs.State.{State, within, with_header}
use Rattle.damage.specs.Damage.{sound}
use Rattle.negotiation.specs.Ends.{other_side}
use Rattle.applied.specs.After.{header_after, after_message}
use Rattle.legal.specs.Legal.{ClassesSuit, OpenFirst, NodesStand, FormedAndNew, EdgeJustified, Unprocessed, RoomLeft, Legal}
use Rattle.message.specs.Message.{message_bytes}
use Rattle.applied.specs.Step.{moved}
use Rattle.take.specs.Commands as C
use Rattle.standing.specs.Turn.{sends, sender_to}
use Rattle.take.specs.Take.{behind_commands, taken_in}
use Rattle.take.specs.laws.TakenExactly.{carried as commands-taken}
use Rattle.legality.specs.laws.Kept.{updates-header}
use Rattle.legality.specs.Mirror.{Mirrored, Mirror}
use Rattle.legality.specs.laws.Mirror.{mirror-state}
use Rattle.reply.specs.Reply.{reply_in, replied_state, reply_bytes}
use Rattle.exchange.specs.Mirror.{other_after}
use Rattle.exchange.specs.laws.SameClasses.{commands-same}
use Rattle.reply.proofs.laws.ReplyLegal.{reply-going, reply-updates, reply-mirrored}
use Rattle.numbers.specs.Answer.{Answer, refused, accepted}
use Rattle.numbers.specs.Refusals.{TURN, ENDED}

-- what the other end reaches with it
module _ (T : Tables) (t : Sound T) (S : State) (h : sound T S ≡ true) (w : within S ≡ true)
    (turn : sends S.header.side S.header.messages ≡ true) (R : State) (m : Mirror S R) where
  sender : sender_to R ≡ S.header.side
  sender = ap other_side m.header.other-side ∙ go (eqb S.header.side 0) refl
    where
      go : (b : Bool) → eqb S.header.side 0 ≡ b → other_side (cond b 1 0) ≡ S.header.side
      go true e = sym (eqb-true S.header.side 0 e)
      go false e = omega (arith, m.header.side, eqb-false S.header.side 0 e)

  end-legal : (ns : List Name) → Legal ns S.header.side (with_header (reply_in T S).state R.header) End
  unfolding ClassesSuit OpenFirst NodesStand FormedAndNew EdgeJustified Unprocessed RoomLeft with_header
  end-legal ns =
      record {
        classes = tt;
        open-first = omega (arith, (reply-going T t S h w turn).some);
        nodes = tt;
        form = tt;
        justified = tt;
        unprocessed = tt;
        room = tt;
      }

  -- the commands are carried out
  reply-carried : (b : List ℕ) → b ≡ message_bytes (reply_in T S).commands
      → C.commands_from (length b) T.names S.header.side b 0 (with_header S R.header) false
      ≡ accepted (with_header (reply_in T S).state R.header, moved (reply_in T S).commands)
  reply-carried b e =
      commands-taken T.names S.header.side b (reply-mirrored T t S h w turn R.header m.header) (end-legal T.names) (length b) 0 false
      e (omega (arith, ap length e))

  -- another end that gives each name the same class, listed or not, and holds the same graph and credentials takes the reply, where it is our turn and
  -- its negotiation has not ended
  pub reply-legal : (U : Tables) → ((n : ℕ) → class_of U.names n ≡ class_of T.names n) → R.header.messages ≡ S.header.messages → R.header.end ≡ 0
      → taken_in (reply_bytes (reply_in T S)) U R ≡ accepted (other_after T S R)
  unfolding taken_in reply_bytes
  reply-legal U names count going =
      let b : List ℕ = message_bytes (reply_in T S).commands in
      let x : Answer (State × Bool) = C.commands_from (length b) U.names (sender_to R) b 0 R false in
      let e : eqb R.header.end 0 ≡ true = eq-eqb R.header.end 0 going in
      let f : sends (sender_to R) R.header.messages ≡ true = (λ i. sends (sender i) (count i)) ∙ turn in
      (λ i. cond (not (e i)) (refused ENDED) (cond (not (f i)) (refused TURN) (behind_commands (sender i) x)))
      ∙ ap (behind_commands S.header.side) (commands-same U.names T.names names (sender_to R) b (length b) 0 R false
      ∙ (λ i. C.commands_from (length b) T.names (sender i) b 0 (mirror-state S R m i) false) ∙ reply-carried b refl)

  -- it reaches the same graph and the same credentials as we do
  pub reply-mirror : Mirror (replied_state (reply_in T S)) (other_after T S R)
  unfolding replied_state after_message with_header header_after
  reply-mirror =
      let q : (reply_in T S).state.header ≡ S.header = updates-header (reply-updates T t S h w turn) in
      let k : Mirrored (reply_in T S).state.header R.header = subst (λ (x : Header). Mirrored x R.header) (sym q) m.header in
      record { header = record { side = k.side; other-side = k.other-side; own = k.own; other = k.other }; nodes = refl; edges = refl; shown = refl }

  -- and counts the messages of each end as we do
  pub reply-counted : R.header.messages ≡ S.header.messages → (other_after T S R).header.messages ≡ (replied_state (reply_in T S)).header.messages
  unfolding replied_state after_message with_header header_after
  reply-counted count =
      let q : (reply_in T S).state.header ≡ S.header = updates-header (reply-updates T t S h w turn) in
      ap (counted S.header.side) count ∙ ap (λ (x : Header). counted x.side x.messages) (sym q)
