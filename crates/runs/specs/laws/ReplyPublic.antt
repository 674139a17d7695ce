-- While no differing role's Ack target is satisfied, a call for a reply goes by the public part of the tables; once one is, it stays so through
-- calls (document 01, "Two runs"). Assumes nothing.
use Prim.Native.Nat.{ℕ}
use Rattle.std.specs.Prelude.{◌≡◌, refl, ◌⊎◌, Bool, true, false, not, cond, List, eqb, length}
use Rattle.std.proofs.Math.Path.{sym, ap, subst}
use Rattle.std.proofs.Common.{◌∙◌, ⊎_elim}
use Rattle.std.proofs.Math.Logic.{inl, inr}
use Rattle.std.proofs.Math.Option.{Option, none, some}
use Rattle.tables.specs.Tables.{Tables}
use Rattle.word.specs.laws.Bools.{false-true}
use Rattle.tables.specs.Check.{read_tables}
use Rattle.tables.specs.Public.{public_of}
use Rattle.negotiation.specs.State.{State, within, with_header}
use Rattle.negotiation.specs.laws.Codec.{read-within}
use Rattle.negotiation.specs.Layout.{read_state}
use Rattle.damage.specs.Damage.{sound, if_sound, read_sound}
use Rattle.standing.specs.Standing as R
use Rattle.standing.specs.laws.StandingPublic as P
use Rattle.applied.specs.After.{header_after, after_message}
use Rattle.applied.specs.Step.{moved}
use Rattle.standing.specs.Turn as K
use Rattle.take.specs.Take.{taken_in}
use Rattle.take.specs.laws.TakeKept.{Took, took}
use Rattle.moves.specs.Known.{is_acknowledged}
use Rattle.moves.specs.laws.Known.{is_disclosed}
use Rattle.reply.specs.Reply.{Replied, reply_in, replied_state, reply_bytes, replied_in, behind_standing, reply_size, reply_of}
use Rattle.runs.specs.laws.Stays.{Stays, within-kept, DisclosedIn, disclosed-kept, reply-stays, commands-stay}
use Rattle.runs.specs.laws.TwoReplies.{replies-alike}
use Rattle.numbers.specs.Answer.{Answer, refused, accepted}
use Rattle.applied.specs.laws.After.{after-within}
use Rattle.numbers.specs.laws.Answer.{second_of, is_accepted}
use Rattle.numbers.specs.Refusals.{LENGTH, TURN, ENDED}
use Rattle.numbers.specs.Sizes.{NEGOTIATION-BYTES}

-- A message leaves the graph, and the header's side and other end

after-disclosed : (T U : Tables) (v : ℕ) (S : State) (m full : Bool) → is_disclosed T U (after_message v S m full) ≡ is_disclosed T U S
unfolding is_disclosed is_acknowledged after_message header_after with_header
after-disclosed T U v S m full = refl

after_both : (T U : Tables) (v : ℕ) (S : State) (m full : Bool) → DisclosedIn T U S → DisclosedIn T U (after_message v S m full)
after_both T U v S m full h = record { sizes = after-within v S m full ∙ h.sizes; opened = after-disclosed T U v S m full ∙ h.opened }

pub disclosed-replied : (T U : Tables) (r : Replied) → is_disclosed T U (replied_state r) ≡ is_disclosed T U r.state
unfolding replied_state
disclosed-replied T U r = after-disclosed T U r.state.header.side r.state (moved r.commands) r.full

-- What a call finds is within the sizes

pub restored-within : (s negotiation : List ℕ) (T W : Tables) (S : State) → read_tables s ≡ accepted T → R.restore_of s negotiation ≡ accepted (W, S)
    → within S ≡ true
unfolding R.restore_of read_sound
restored-within s negotiation T W S h a =
    let b : Bool = eqb (length negotiation) NEGOTIATION-BYTES in
    go b (read_state negotiation) refl (sym (ap (λ (o : Answer Tables). cond b (R.behind_tables negotiation o) (refused LENGTH)) h) ∙ a)
  where
    found : (b : Bool) (A : State) → read_state negotiation ≡ some A → R.behind_damage T (cond b (some A) none) ≡ accepted (W, S) → within S ≡ true
    found true A q k = ap within (sym (ap (second_of S) k)) ∙ read-within negotiation A q
    found false A q k = absurd (false-true (ap is_accepted k))

    go : (b : Bool) (x : Option State) → read_state negotiation ≡ x → cond b (R.behind_damage T (if_sound T x)) (refused LENGTH) ≡ accepted (W, S)
        → within S ≡ true
    go false x q k = absurd (false-true (ap is_accepted k))
    go true none q k = absurd (false-true (ap is_accepted k))
    go true (some A) q k = found (sound T A) A q k

-- The call

-- no differing role's Ack target is satisfied in what the call leaves; a refusal leaves what was there
abbrev pub Undisclosed : Tables → Tables → Answer (List ℕ × State) → Type 0
Undisclosed T U (refused k) = Unit {0}
Undisclosed T U (accepted (m, S)) = is_disclosed T U S ≡ false

module _ (T U : Tables) (e : public_of T ≡ public_of U) where
  pub replied-alike : (S : State) → within S ≡ true → Undisclosed T U (replied_in T S) ⊎ Undisclosed T U (replied_in U S) → replied_in T S ≡ replied_in U S
  unfolding replied_in
  replied-alike S w h = go (not (eqb S.header.end 0)) (not (K.sends S.header.side S.header.messages)) h
    where
      by : Tables → Answer (List ℕ × State)
      by W = accepted (reply_bytes (reply_in W S), replied_state (reply_in W S))

      chosen : Bool → Bool → Answer (List ℕ × State) → Answer (List ℕ × State)
      chosen b d o = cond b (refused ENDED) (cond d (refused TURN) o)

      shut : (W : Tables) → Undisclosed T U (by W) → is_disclosed T U (reply_in W S).state ≡ false
      shut W q = sym (disclosed-replied T U (reply_in W S)) ∙ q

      go : (b d : Bool) → Undisclosed T U (chosen b d (by T)) ⊎ Undisclosed T U (chosen b d (by U)) → chosen b d (by T) ≡ chosen b d (by U)
      go true d k = refl
      go false true k = refl
      go false false k =
          ap (λ (r : Replied). accepted (reply_bytes r, replied_state r)) (replies-alike T U e S w (⊎_elim (λ q. inl (shut T q)) (λ q. inr (shut U q)) k))

  -- Two calls for a reply whose tables differ only in which sensitive roles are held and in access policies: where one of them leaves no differing
  -- role's Ack target satisfied, they have one outcome
  pub reply-public : (s t : List ℕ) → read_tables s ≡ accepted T → read_tables t ≡ accepted U → (negotiation reply scratch : List ℕ)
      → Undisclosed T U (reply_of s negotiation reply scratch) ⊎ Undisclosed T U (reply_of t negotiation reply scratch)
      → reply_of s negotiation reply scratch ≡ reply_of t negotiation reply scratch
  unfolding reply_of
  reply-public s t h k negotiation reply scratch q =
      sized (reply_size (length reply) (length scratch)) (R.restore_of s negotiation) (R.restore_of t negotiation)
      (P.restore-alike T U e s t h k negotiation) (λ S a. restored-within s negotiation T T S h a) q
    where
      both : (x y : Answer (Tables × State)) → P.Alike T U x y → ((S : State) → x ≡ accepted (T, S) → within S ≡ true)
          → Undisclosed T U (behind_standing x) ⊎ Undisclosed T U (behind_standing y) → behind_standing x ≡ behind_standing y
      both x y (P.both-refused n a b) w c = ap behind_standing a ∙ sym (ap behind_standing b)
      both x y (P.both_found S a b) w c =
          ap behind_standing a
          ∙ replied-alike S (w S a) (⊎_elim (λ z. inl (subst (λ (v : Answer (Tables × State)). Undisclosed T U (behind_standing v)) a z))
          (λ z. inr (subst (λ (v : Answer (Tables × State)). Undisclosed T U (behind_standing v)) b z)) c)
          ∙ sym (ap behind_standing b)

      sized : (c : Bool) (x y : Answer (Tables × State)) → P.Alike T U x y → ((S : State) → x ≡ accepted (T, S) → within S ≡ true)
          → Undisclosed T U (cond c (behind_standing x) (refused LENGTH)) ⊎ Undisclosed T U (cond c (behind_standing y) (refused LENGTH))
          → cond c (behind_standing x) (refused LENGTH) ≡ cond c (behind_standing y) (refused LENGTH)
      sized true x y l w c = both x y l w c
      sized false x y l w c = refl

-- Calls one after another

-- what a reply given was
pub record Gave (W : Tables) (S A : State) : Type 0 where
  pub turn : K.sends S.header.side S.header.messages ≡ true
  pub after : A ≡ replied_state (reply_in W S)

pub gave : (W : Tables) (S A : State) (m : List ℕ) → replied_in W S ≡ accepted (m, A) → Gave W S A
unfolding replied_in
gave W S A m e = go (not (eqb S.header.end 0)) (K.sends S.header.side S.header.messages) refl e
  where
    r : Replied
    r = reply_in W S

    go : (b d : Bool) → K.sends S.header.side S.header.messages ≡ d
        → cond {A = Answer (List ℕ × State)} b (refused ENDED) (cond (not d) (refused TURN) (accepted (reply_bytes r, replied_state r)))
        ≡ accepted (m, A) → Gave W S A
    go true d t q = absurd (false-true (ap is_accepted q))
    go false false t q = absurd (false-true (ap is_accepted q))
    go false true t q = record { turn = t; after = sym (ap (second_of S) q) }

-- what every command with room keeps, and the end of a message
module _ {P : State → Type 0} (k : Stays P) (after : (v : ℕ) (S : State) (m full : Bool) → P S → P (after_message v S m full)) (W : Tables)
    (S A : State) (h : P S) where
  given-kept : (m : List ℕ) → replied_in W S ≡ accepted (m, A) → P A
  unfolding replied_state
  given-kept m e =
      let r : Replied = reply_in W S in
      subst P (sym (gave W S A m e).after) (after r.state.header.side r.state (moved r.commands) r.full (reply-stays k W S h))

  taken-kept : (m : List ℕ) → taken_in m W S ≡ accepted A → P A
  taken-kept m e =
      let t : Took m W S A = took m W S A e in
      subst P (sym t.after) (after (K.sender_to S) t.led t.moved false
      (commands-stay k (length m) W.names (K.sender_to S) m 0 S false t.led t.moved h t.commands))

-- a reply given keeps the sizes, as a message taken does
pub given-within : (W : Tables) (S A : State) → within S ≡ true → (m : List ℕ) → replied_in W S ≡ accepted (m, A) → within A ≡ true
given-within W S A w = given-kept within-kept (λ v B m full w. after-within v B m full ∙ w) W S A w

-- both keep an Ack target of a differing role satisfied
pub given-disclosed : (T U W : Tables) (S A : State) → DisclosedIn T U S → (m : List ℕ) → replied_in W S ≡ accepted (m, A) → DisclosedIn T U A
given-disclosed T U W S A h = given-kept (disclosed-kept T U) (after_both T U) W S A h

pub taken-disclosed : (T U W : Tables) (S A : State) → DisclosedIn T U S → (m : List ℕ) → taken_in m W S ≡ accepted A → DisclosedIn T U A
taken-disclosed T U W S A h = taken-kept (disclosed-kept T U) (after_both T U) W S A h
