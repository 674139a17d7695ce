-- What calls keep: the sizes, and a satisfied Ack target of a role in which the tables differ (document 01, "Two runs"). Assumes nothing.
use Rattle.std.specs.Prelude.{ℕ, ◌≡◌, refl, Bool, true, false, cond, eqb, length}
use Rattle.std.proofs.Common.{sym, ◌∙◌, ap}
use mathlib.Core.List.{List, [], ◌∷◌}
use Rattle.std.proofs.Math.Option.{Option, none, some}
use Rattle.word.specs.laws.Bools.{false-true}
use Rattle.tables.specs.Tables.{Tables}
use Rattle.tables.specs.Check as C
use Rattle.negotiation.specs.State.{State, within}
use Rattle.negotiation.specs.Layout.{state_bytes, read_state}
use Rattle.negotiation.specs.laws.Codec.{state-back, read-within}
use Rattle.damage.specs.Damage.{sound, if_sound, read_sound}
use Rattle.standing.specs.Standing as R
use Rattle.take.specs.Take as K
use Rattle.standing.specs.Turn.{sender_to}
use Rattle.take.specs.laws.TakeKept.{Took, took}
use Rattle.reply.specs.Reply as A
use Rattle.runs.specs.laws.Stays.{within-kept, DisclosedIn, commands-stay}
use Rattle.runs.specs.laws.ReplyPublic.{given-within, given-disclosed, taken-disclosed}
use Rattle.begin.specs.Begin.{begin_of}
use Rattle.begin.specs.laws.Kept.{begin-undamaged}
use Rattle.runs.specs.Runs.{Call, take, reply, report, taken_to, given_to, after_call, after}
use Rattle.numbers.specs.Answer.{Answer, refused, accepted, onward}
use Rattle.numbers.specs.laws.Answer.{is_accepted}
use Rattle.applied.specs.laws.After.{after-within}
use Rattle.numbers.specs.Refusals.{LENGTH, DAMAGED}
use Rattle.numbers.specs.Sizes.{NEGOTIATION-BYTES}

-- What a call finds in the bytes of a state

-- a refusal, or that state
pub data Finds (T : Tables) (S : State) (x : Answer (Tables × State)) : Type 0 where
  none_found : (k : ℕ) → x ≡ refused k → Finds T S x
  state-found : x ≡ accepted (T, S) → Finds T S x

pub finds : (tables : List ℕ) (T : Tables) (S : State) → C.read_tables tables ≡ accepted T → within S ≡ true → Finds T S (R.restore_of tables (state_bytes S))
unfolding R.restore_of read_sound
finds tables T S h w =
    let b : Bool = eqb (length (state_bytes S)) NEGOTIATION-BYTES in
    go b (sound T S) (ap (λ (o : Answer Tables). cond b (R.behind_tables (state_bytes S) o) (refused LENGTH)) h
    ∙ ap (λ (x : Option State). cond b (R.behind_damage T (if_sound T x)) (refused LENGTH)) (state-back S w))
  where
    go : {x : Answer (Tables × State)} (b c : Bool) → x ≡ cond b (R.behind_damage T (cond c (some S) none)) (refused LENGTH) → Finds T S x
    go true true e = state-found e
    go true false e = none_found DAMAGED e
    go false c e = none_found LENGTH e

-- so a call that is accepted goes on from it
module _ (tables : List ℕ) (T : Tables) (S : State) (h : C.read_tables tables ≡ accepted T) (w : within S ≡ true) where
  found : {B : Type 0} (f : Tables × State → Answer B) (b : Bool) (v : B)
      → cond b (onward f (R.restore_of tables (state_bytes S))) (refused LENGTH) ≡ accepted v → f (T, S) ≡ accepted v
  found {B} f b v e = go b (R.restore_of tables (state_bytes S)) (finds tables T S h w) e
    where
      go : (b : Bool) (x : Answer (Tables × State)) → Finds T S x → cond {A = Answer B} b (onward f x) (refused LENGTH) ≡ accepted v
          → f (T, S) ≡ accepted v
      go false x y q = absurd (false-true (ap is_accepted q))
      go true x (none_found n g) q = absurd (false-true (ap is_accepted (sym (ap (onward f) g) ∙ q)))
      go true x (state-found g) q = sym (ap (onward f) g) ∙ q

  pub take_found : (message scratch : List ℕ) (N : State) → K.take_of tables (state_bytes S) message scratch ≡ accepted N → K.taken_in message T S ≡ accepted N
  unfolding K.take_of
  take_found message scratch N e = found (λ x. K.taken_in message x.0 x.1) (K.message_size (length message) (length scratch)) N e

  pub reply-found : (buffer scratch m : List ℕ) (N : State) → A.reply_of tables (state_bytes S) buffer scratch ≡ accepted (m, N)
      → A.replied_in T S ≡ accepted (m, N)
  unfolding A.reply_of
  reply-found buffer scratch m N e = found (λ x. A.replied_in x.0 x.1) (A.reply_size (length buffer) (length scratch)) (m, N) e

-- What a message accepted and a reply given keep, calls keep

pub record Keeps (P : State → Type 0) : Type 0 where
  pub sizes : (S : State) → P S → within S ≡ true
  pub taken : (W : Tables) (S N : State) → P S → (m : List ℕ) → K.taken_in m W S ≡ accepted N → P N
  pub given : (W : Tables) (S N : State) → P S → (m : List ℕ) → A.replied_in W S ≡ accepted (m, N) → P N

module _ {P : State → Type 0} (k : Keeps P) (tables : List ℕ) (T : Tables) (h : C.read_tables tables ≡ accepted T) where
  take-keeps : (S : State) (message scratch : List ℕ) → P S → P (taken_to S (K.take_of tables (state_bytes S) message scratch))
  take-keeps S message scratch p = go (K.take_of tables (state_bytes S) message scratch) refl
    where
      go : (o : Answer State) → K.take_of tables (state_bytes S) message scratch ≡ o → P (taken_to S o)
      go (refused n) e = p
      go (accepted N) e = k.taken T S N p message (take_found tables T S h (k.sizes S p) message scratch N e)

  reply-keeps : (S : State) (buffer scratch : List ℕ) → P S → P (given_to S (A.reply_of tables (state_bytes S) buffer scratch))
  reply-keeps S buffer scratch p = go (A.reply_of tables (state_bytes S) buffer scratch) refl
    where
      go : (o : Answer (List ℕ × State)) → A.reply_of tables (state_bytes S) buffer scratch ≡ o → P (given_to S o)
      go (refused n) e = p
      go (accepted (m, N)) e = k.given T S N p m (reply-found tables T S h (k.sizes S p) buffer scratch m N e)

  pub call-keeps : (S : State) (c : Call) → P S → P (after_call tables S c)
  unfolding after_call
  call-keeps S (take message scratch) p = take-keeps S message scratch p
  call-keeps S (reply buffer scratch) p = reply-keeps S buffer scratch p
  call-keeps S (report node) p = p

  pub calls-keep : (S : State) (cs : List Call) → P S → P (after tables S cs)
  unfolding after
  calls-keep S [] p = p
  calls-keep S (c ∷ cs) p = calls-keep (after_call tables S c) cs (call-keeps S c p)

-- The sizes, and a satisfied Ack target

taken-sizes : (W : Tables) (S N : State) → within S ≡ true → (m : List ℕ) → K.taken_in m W S ≡ accepted N → within N ≡ true
taken-sizes W S N w m e =
    let t : Took m W S N = took m W S N e in
    ap within t.after ∙ after-within (sender_to S) t.led t.moved false
    ∙ commands-stay within-kept (length m) W.names (sender_to S) m 0 S false t.led t.moved w t.commands

pub keeps-sizes : Keeps (λ S. within S ≡ true)
keeps-sizes = record { sizes = λ S w. w; taken = λ W S N w m e. taken-sizes W S N w m e; given = λ W S N w m e. given-within W S N w m e }

pub keeps-disclosed : (T U : Tables) → Keeps (DisclosedIn T U)
keeps-disclosed T U =
    record { sizes = λ S p. p.sizes; taken = λ W S N p m e. taken-disclosed T U W S N p m e; given = λ W S N p m e. given-disclosed T U W S N p m e }

-- What begin makes is within the sizes

abbrev is_some : Option State → Bool
is_some none = false
is_some (some S) = true

abbrev state_in : State → Option State → State
state_in S none = S
state_in S (some N) = N

pub begun-within : (tables negotiation : List ℕ) (other entity name : ℕ) (T : Tables) (S : State) → C.read_tables tables ≡ accepted T
    → begin_of tables negotiation other entity name ≡ accepted S → within S ≡ true
unfolding read_sound
begun-within tables negotiation other entity name T S h e = go (read_state (state_bytes S)) refl (begin-undamaged tables negotiation other entity name e h)
  where
    whole : (b : Bool) (N : State) → read_state (state_bytes S) ≡ some N → cond b (some N) none ≡ some S → within S ≡ true
    whole true N q z = sym (ap (λ (o : Option State). within (state_in S o)) z) ∙ read-within (state_bytes S) N q
    whole false N q z = absurd (false-true (ap is_some z))

    go : (x : Option State) → read_state (state_bytes S) ≡ x → if_sound T x ≡ some S → within S ≡ true
    go none q z = absurd (false-true (ap is_some z))
    go (some N) q z = whole (sound T N) N q z
