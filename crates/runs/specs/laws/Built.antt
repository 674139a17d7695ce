-- The graph after a list of calls is the one that the commands of all messages accepted and replies given lead to. Assumes nothing.
use Rattle.std.specs.Prelude.{ℕ, ◌<◌, ◌≡◌, true, false, get_or}
use Rattle.std.proofs.Math.Path.{refl, ap, subst}
use Rattle.std.proofs.Common.{sym, ◌∙◌}
use mathlib.Core.List.{List, [], ◌∷◌, ◌++◌, Memᴰ}
use Rattle.word.specs.laws.Bools.{false-true}
use Rattle.numbers.specs.Answer.{Answer, refused, accepted}
use Rattle.numbers.specs.laws.Answer.{is_accepted, value_or}
use Rattle.tables.specs.Tables.{Tables}
use Rattle.tables.specs.Check.{read_tables}
use Rattle.negotiation.specs.declared.Header.{Header}
use Rattle.negotiation.specs.State.{State, within}
use Rattle.negotiation.specs.Layout.{state_bytes}
use Rattle.standing.specs.Standing.{restore_of}
use Rattle.standing.specs.laws.Exactly.{restored-exactly}
use Rattle.applied.specs.Step.{moved}
use Rattle.applied.specs.After.{after_message}
use Rattle.take.specs.Take.{take_of}
use Rattle.take.specs.Call.{Accepted}
use Rattle.take.specs.laws.TakenExactly.{take-exactly}
use Rattle.reply.specs.Reply.{Replied, reply_in, replied_state, reply_of}
use Rattle.exchange.specs.Given.{ReplyGiven}
use Rattle.exchange.specs.laws.Given.{given-exactly}
use Rattle.begin.specs.Begin.{begin_of}
use Rattle.runs.specs.Runs.{Call, take, reply, report, taken_to, given_to, after_call, after}
use Rattle.runs.specs.Built.{Message, by_take, by_reply, message_of, messages_of, Builds, none, next, LentBytes}
use Rattle.runs.specs.laws.Stays.{header-kept, reply-stays}
use Rattle.runs.specs.laws.RunsKept.{Finds, none_found, state-found, finds, call-keeps, keeps-sizes, begun-within}

module _ (tables : List ℕ) (T : Tables) (h : read_tables tables ≡ accepted T) where
  -- in the bytes of a state a call finds these tables and that state
  pub finds-only : (S : State) → within S ≡ true → (x : Tables × State) → restore_of tables (state_bytes S) ≡ accepted x → ◌≡◌ {A = Tables × State} x (T, S)
  finds-only S w x e = go (finds tables T S h w)
    where
      go : Finds T S (restore_of tables (state_bytes S)) → ◌≡◌ {A = Tables × State} x (T, S)
      go (none_found k q) = absurd (false-true (sym (ap is_accepted q) ∙ ap is_accepted e))
      go (state-found q) = ap (value_or x) (sym e ∙ q)

  -- One call

  module _ (S : State) (w : within S ≡ true) {N : State} {ms : List Message} where
    take-builds : (m scratch : List ℕ) → ((i : ℕ) → get_or m i 0 < 256) → (o : Answer State) → take_of tables (state_bytes S) m scratch ≡ o
        → Builds T.names (taken_to S o) ms N → Builds T.names S (by_take S m o ++ ms) N
    take-builds m scratch bytes (refused k) e b = b
    take-builds m scratch bytes (accepted A) e b =
        let q = (take-exactly tables (state_bytes S) m scratch A bytes).0 e in
        let found = finds-only S w (q.0, q.1) ((restored-exactly tables (state_bytes S) q.0 q.1).1 q.2.held) in
        let a : Accepted T S m A = subst (λ (x : Tables × State). Accepted x.0 x.1 m A) found q.4 in
        next a.commands false a.carries.bytes a.carries.updates (subst (λ (x : State). Builds T.names x ms N) a.after b)

    reply-builds : (buffer scratch : List ℕ) (o : Answer (List ℕ × State)) → reply_of tables (state_bytes S) buffer scratch ≡ o
        → Builds T.names (given_to S o) ms N → Builds T.names S (by_reply S o ++ ms) N
    unfolding replied_state
    reply-builds buffer scratch (refused k) e b = b
    reply-builds buffer scratch (accepted (m, A)) e b =
        let g : ReplyGiven tables (state_bytes S) buffer scratch m A = (given-exactly tables (state_bytes S) buffer scratch m A).0 e in
        let U : Tables = g.house in
        let R : State = g.state in
        let found = finds-only S w (U, R) ((restored-exactly tables (state_bytes S) U R).1 g.held) in
        let r : Replied = reply_in U R in
        let side : r.state.header.side ≡ R.header.side = ap (λ (x : Header). x.side) (reply-stays (header-kept R.header) U R refl) in
        let after : A ≡ after_message R.header.side r.state (moved r.commands) r.full = g.after
        ∙ ap (λ (v : ℕ). after_message v r.state (moved r.commands) r.full) side in
        subst (λ (x : Tables × State). Builds x.0.names x.1 (record { sender = x.1.header.side; bytes = m } ∷ ms) N) found
        (next r.commands r.full g.bytes g.updates
        (subst (λ (x : State). Builds U.names x ms N) after (subst (λ (x : Tables × State). Builds x.0.names A ms N) (sym found) b)))

  call-builds : (S : State) → within S ≡ true → (c : Call) → LentBytes c → {N : State} {ms : List Message}
      → Builds T.names (after_call tables S c) ms N → Builds T.names S (message_of tables S c ++ ms) N
  unfolding after_call message_of
  call-builds S w (take m scratch) l b = take-builds S w m scratch l (take_of tables (state_bytes S) m scratch) refl b
  call-builds S w (reply buffer scratch) l b = reply-builds S w buffer scratch (reply_of tables (state_bytes S) buffer scratch) refl b
  call-builds S w (report node) l b = b

  -- A list of calls

  calls-build : (S : State) → within S ≡ true → (cs : List Call) → ((c : Call) → Memᴰ c cs → LentBytes c)
      → Builds T.names S (messages_of tables S cs) (after tables S cs)
  unfolding after messages_of
  calls-build S w [] l = none
  calls-build S w (c ∷ cs) l =
      call-builds S w c (l c (Memᴰ.head refl))
      (calls-build (after_call tables S c) (call-keeps keeps-sizes tables T h S c w) cs (λ d m. l d (Memᴰ.tail m)))

  -- "The graph after a call is built by the commands of all messages accepted and replies given so far", from an accepted begin on
  pub after-built : (negotiation : List ℕ) (other entity name : ℕ) (S : State) → begin_of tables negotiation other entity name ≡ accepted S
      → (cs : List Call) → ((c : Call) → Memᴰ c cs → LentBytes c) → Builds T.names S (messages_of tables S cs) (after tables S cs)
  after-built negotiation other entity name S b cs l = calls-build S (begun-within tables negotiation other entity name T S h b) cs l
