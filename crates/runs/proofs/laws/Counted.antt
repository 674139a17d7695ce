-- Along a list of calls the count of each end is the number of its messages accepted or given so far. Assumes nothing.
use Prim.Native.Nat.{ℕ, zero, suc, ◌+◌, ◌<◌}
use native.Mathlib.Omega.{arith}
use Rattle.std.specs.Prelude.{◌≡◌, Bool, false, cond, eqb, length}
use Rattle.std.proofs.Math.Path.{refl, ap}
use Rattle.std.proofs.Common.{sym, ◌∙◌, length-append}
use Rattle.std.proofs.Math.Bool.{true}
use mathlib.Core.List.{List, [], ◌∷◌, ◌++◌}
use Rattle.tables.specs.Tables.{Tables}
use Rattle.tables.specs.Check.{read_tables}
use Rattle.negotiation.specs.declared.Header.{Header}
use Rattle.negotiation.specs.declared.Messages.{Messages}
use Rattle.negotiation.specs.Messages.{message_count, counted}
use Rattle.negotiation.specs.laws.Messages.{counted-one}
use Rattle.negotiation.specs.State.{State, within, fresh_state, with_header}
use Rattle.negotiation.specs.Layout.{state_bytes}
use Rattle.standing.specs.Turn.{sender_to}
use Rattle.standing.specs.laws.Turn.{sender-side}
use Rattle.standing.specs.laws.Exactly.{restored-exactly}
use Rattle.applied.specs.After.{header_after, after_message}
use Rattle.take.specs.Take.{take_of}
use Rattle.take.specs.laws.TakeKept.{Took, took}
use Rattle.reply.specs.Reply.{reply_in, replied_state, reply_of}
use Rattle.report.specs.Report.{Report, report_on, report_of}
use Rattle.report.specs.laws.Exactly.{report-exactly}
use Rattle.begin.specs.Begin.{begun_state, begin_of}
use Rattle.begin.specs.laws.Refused.{begun-exactly}
use Rattle.numbers.specs.Answer.{Answer, refused, accepted}
use Rattle.runs.specs.Runs.{Call, take, reply, report, run, last_of, taken_to, given_to, after_call, after}
use Rattle.runs.specs.Built.{Message, by_take, by_reply, message_of, messages_of}
use Rattle.runs.specs.Counted.{sent_by, Counted}
use Rattle.runs.proofs.laws.Runs.{run-after}
use Rattle.runs.specs.laws.Stays.{header-kept, commands-stay, reply-stays}
use Rattle.runs.specs.laws.ReplyPublic.{Gave, gave}
use Rattle.runs.specs.laws.RunsKept.{take_found, reply-found, call-keeps, calls-keep, keeps-sizes, begun-within}
use Rattle.runs.specs.laws.Built.{finds-only}

-- Messages one after the other

sent-append : (v : ℕ) (ms ns : List Message) → sent_by v (ms ++ ns) ≡ sent_by v ms + sent_by v ns
unfolding sent_by
sent-append v [] ns = omega arith
sent-append v (m ∷ ms) ns = omega (arith, sent-append v ms ns)

-- from some counts to others by these messages
record Adds (ms : List Message) (A B : Messages) : Type 0 where
  mediator : B.mediator ≡ A.mediator + sent_by 0 ms
  requester : B.requester ≡ A.requester + sent_by 1 ms
  together : message_count B ≡ message_count A + length ms

adds_none : (A : Messages) → Adds [] A A
unfolding sent_by
adds_none A = record { mediator = omega arith; requester = omega arith; together = omega arith }

adds_one : (m : Message) (A B : Messages) → m.sender < 2 → B ≡ counted m.sender A → Adds (m ∷ []) A B
unfolding sent_by counted
adds_one m A B l e =
    record {
      mediator = omega (arith, ap (λ (x : Messages). x.mediator) e);
      requester = omega (arith, ap (λ (x : Messages). x.requester) e, other m.sender l);
      together = ap message_count e ∙ counted-one m.sender A;
    }
  where
    other : (v : ℕ) → v < 2 → ◌≡◌ {A = ℕ} (cond (eqb v 0) 0 1) (cond (eqb v 1) 1 0)
    other zero l = refl
    other (suc zero) l = refl
    other (suc (suc n)) l = absurd (omega arith)

adds-append : {ms ns : List Message} {A B C : Messages} → Adds ms A B → Adds ns B C → Adds (ms ++ ns) A C
adds-append {ms} {ns} p q =
    record {
      mediator = omega (arith, p.mediator, q.mediator, sent-append 0 ms ns);
      requester = omega (arith, p.requester, q.requester, sent-append 1 ms ns);
      together = omega (arith, p.together, q.together, length-append ms ns);
    }

-- One call

after-counted : (v : ℕ) (S : State) (m full : Bool) → (after_message v S m full).header.messages ≡ counted v S.header.messages
unfolding after_message with_header header_after
after-counted v S m full = refl

module _ (tables : List ℕ) (T : Tables) (h : read_tables tables ≡ accepted T) where
  module _ (S : State) (w : within S ≡ true) where
    take-adds : (m scratch : List ℕ) (o : Answer State) → take_of tables (state_bytes S) m scratch ≡ o
        → Adds (by_take S m o) S.header.messages (taken_to S o).header.messages
    take-adds m scratch (refused k) e = adds_none S.header.messages
    take-adds m scratch (accepted N) e =
        let v : ℕ = sender_to S in
        let t : Took m T S N = took m T S N (take_found tables T S h w m scratch N e) in
        let q : t.led.header ≡ S.header = commands-stay (header-kept S.header) (length m) T.names v m 0 S false t.led t.moved
        refl t.commands in
        adds_one (record { sender = v; bytes = m }) S.header.messages N.header.messages (sender-side v S.header.messages t.turn)
        (ap (λ (x : State). x.header.messages) t.after ∙ after-counted v t.led t.moved false ∙ ap (λ (x : Header). counted v x.messages) q)

    reply-adds : (buffer scratch : List ℕ) (o : Answer (List ℕ × State)) → reply_of tables (state_bytes S) buffer scratch ≡ o
        → Adds (by_reply S o) S.header.messages (given_to S o).header.messages
    unfolding replied_state
    reply-adds buffer scratch (refused k) e = adds_none S.header.messages
    reply-adds buffer scratch (accepted (m, N)) e =
        let v : ℕ = S.header.side in
        let g : Gave T S N = gave T S N m (reply-found tables T S h w buffer scratch m N e) in
        let q : (reply_in T S).state.header ≡ S.header = reply-stays (header-kept S.header) T S refl in
        adds_one (record { sender = v; bytes = m }) S.header.messages N.header.messages (sender-side v S.header.messages g.turn)
        (ap (λ (x : State). x.header.messages) g.after ∙ after-counted (reply_in T S).state.header.side (reply_in T S).state _ _
        ∙ ap (λ (x : Header). counted x.side x.messages) q)

    call-adds : (c : Call) → Adds (message_of tables S c) S.header.messages (after_call tables S c).header.messages
    unfolding after_call message_of
    call-adds (take m scratch) = take-adds m scratch (take_of tables (state_bytes S) m scratch) refl
    call-adds (reply buffer scratch) = reply-adds buffer scratch (reply_of tables (state_bytes S) buffer scratch) refl
    call-adds (report node) = adds_none S.header.messages

  -- A list of calls

  calls-add : (S : State) → within S ≡ true → (cs : List Call) → Adds (messages_of tables S cs) S.header.messages (after tables S cs).header.messages
  unfolding after messages_of
  calls-add S w [] = adds_none S.header.messages
  calls-add S w (c ∷ cs) = adds-append (call-adds S w c) (calls-add (after_call tables S c) (call-keeps keeps-sizes tables T h S c w) cs)

  -- what a report on the bytes of a state says
  report-counts : (N : State) → within N ≡ true → (node : ℕ) (r : Report) → report_of tables (state_bytes N) node ≡ accepted r
      → r.messages ≡ N.header.messages
  unfolding report_on
  report-counts N w node r e =
      let x = (report-exactly tables (state_bytes N) node r).0 e in
      let found = finds-only tables T h N w (x.house, x.state) ((restored-exactly tables (state_bytes N) x.house x.state).1 x.held) in
      ap (λ (y : Report). y.messages) x.numbers ∙ ap (λ (y : Tables × State). y.1.header.messages) found

  -- "They want to know how many came from each side": from an accepted begin on, whatever is called and refused
  pub messages-counted : (negotiation : List ℕ) (other entity name : ℕ) (S : State) → begin_of tables negotiation other entity name ≡ accepted S
      → (cs : List Call) → Counted tables (last_of (state_bytes S) (run tables (state_bytes S) cs)) (messages_of tables S cs)
  unfolding begun_state fresh_state message_count
  messages-counted negotiation other entity name S b cs =
      let w : within S ≡ true = begun-within tables negotiation other entity name T S h b in
      let N : State = after tables S cs in
      let n : List ℕ = last_of (state_bytes S) (run tables (state_bytes S) cs) in
      let bytes : n ≡ state_bytes N = run-after tables S cs in
      let none = ((begun-exactly tables negotiation other entity name S).0 b).fresh in
      let p = calls-add S w cs in
      let mediator : N.header.messages.mediator ≡ sent_by 0 (messages_of tables S cs) = omega (
        arith,
        p.mediator,
        ap (λ (x : State). x.header.messages.mediator) none,
      ) in
      let requester : N.header.messages.requester ≡ sent_by 1 (messages_of tables S cs) = omega (
        arith,
        p.requester,
        ap (λ (x : State). x.header.messages.requester) none,
      ) in
      record {
        state = N;
        bytes = bytes;
        mediator = mediator;
        requester = requester;
        together = omega (arith, p.together, ap (λ (x : State). message_count x.header.messages) none);
        reported =
            λ node r e. (let q : r.messages ≡ N.header.messages = report-counts N (calls-keep keeps-sizes tables T h S cs w) node r
            (ap (λ (y : List ℕ). report_of tables y node) (sym bytes) ∙ e) in
            (ap (λ (x : Messages). x.mediator) q ∙ mediator, ap (λ (x : Messages). x.requester) q ∙ requester));
      }
