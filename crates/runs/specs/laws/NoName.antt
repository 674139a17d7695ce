-- No call answers 4, "a name without class" (request 2: "Refusal 4 no longer occurs"). Assumes nothing.
use Prim.Native.Nat.{ℕ, zero, suc, ◌+◌}
use Rattle.std.proofs.Common.{arith, ◌∙◌, ⊎_elim}
use Rattle.std.specs.Prelude.{◌≡◌, Bool, not, ◌||◌, List, eqb, length, Result, Ok, Err}
use Rattle.std.proofs.Math.Path.{refl, ap}
use Rattle.std.proofs.Math.Bool.{true, false, cond}
use Rattle.word.specs.laws.Bools.{false-true}
use Rattle.class.specs.declared.Name.{Name}
use Rattle.tables.specs.Tables.{Tables}
use Rattle.tables.specs.Check.{read_tables, check_of}
use Rattle.tables.specs.laws.Accepted.{check-numbers}
use Rattle.message.specs.declared.Command.{Command}
use Rattle.message.specs.Command.{command_at, size_of}
use Rattle.message.specs.Message.{is_end}
use Rattle.message.specs.laws.CommandExact.{command-refusal}
use Rattle.negotiation.specs.State.{State}
use Rattle.standing.specs.Standing.{restore_of}
use Rattle.standing.specs.Turn.{sends, sender_to}
use Rattle.standing.specs.Holds.{Unrestored, wrong-length, unread, damaged}
use Rattle.standing.specs.laws.Unrestored.{unrestored-exactly}
use Rattle.applied.specs.Step.{stepped, is_move}
use Rattle.legal.specs.Number.{legal_number}
use Rattle.legal.specs.laws.Exact.{illegal-exactly, illegal-range}
use Rattle.take.specs.Commands.{on_command, commands_from}
use Rattle.take.specs.Take.{behind_commands, taken_in, behind_standing, message_size, take_of}
use Rattle.reply.specs.Reply.{length_of, reply_of}
use Rattle.report.specs.Report.{packed, report_of}
use Rattle.report.specs.Reported.{ReportRefused, absent}
use Rattle.report.specs.Reported as report-reason
use Rattle.report.specs.laws.Exactly.{report-refused-exactly}
use Rattle.exchange.specs.Given.{ReplyRefused, size, ended, out-of-turn}
use Rattle.exchange.specs.Given as reply-reason
use Rattle.exchange.specs.laws.Refused.{reply-refused-exactly}
use Rattle.begin.specs.Begin.{begin_of}
use Rattle.begin.specs.laws.Refused.{begin-numbers}
use Rattle.numbers.specs.Answer.{Answer, refused, accepted, judged, answer_of, no_value}
use Rattle.numbers.specs.laws.Answer.{is_refused, number_of}
use Rattle.numbers.specs.Refusals.{LENGTH, TURN, ENDED, NAME}
use Rattle.runs.specs.Runs.{Call, take, reply, report, left_by_take, left_by_reply, left_by_report, left_by}

-- an answer of 4 is a refusal: an accepted call answers a multiple of 256
answer-refused : {A : Type 0} (value : A → ℕ) (o : Answer A) → answer_of value o ≡ NAME → o ≡ refused NAME
answer-refused value (refused k) h = ap refused h
answer-refused value (accepted x) h = absurd (omega (arith, h))

module _ (tables negotiation : List ℕ) where
  found : Unrestored tables negotiation NAME → ⊥
  found (wrong-length n e) = omega (arith, e)
  found (unread l e) = (check-numbers tables NAME e).2 refl
  found (damaged d e) = omega (arith, e)

-- Take

module _ (ns : List Name) (s : ℕ) (m : List ℕ) where
  commands : (f at : ℕ) (S : State) (v : Bool) → commands_from f ns s m at S v ≡ refused NAME → ⊥
  unfolding commands_from
  commands zero at S v h = omega (arith, ap number_of h)
  commands (suc f) at S v h = go (command_at m at) refl h (λ i U w. commands f i U w)
    where
      by_end : (c : Command) (b : Bool)
          → cond b (accepted (S, v)) (commands_from f ns s m (at + size_of c) (stepped S s c) (v || is_move c)) ≡ refused NAME
          → ((i : ℕ) (U : State) (w : Bool) → commands_from f ns s m i U w ≡ refused NAME → ⊥) → ⊥
      by_end c true q again = false-true (ap is_refused q)
      by_end c false q again = again (at + size_of c) (stepped S s c) (v || is_move c) q

      by_number : (c : Command) (k : ℕ) → legal_number ns s S c ≡ k
          → judged k (cond (is_end c) (accepted (S, v)) (commands_from f ns s m (at + size_of c) (stepped S s c) (v || is_move c))) ≡ refused NAME
          → ((i : ℕ) (U : State) (w : Bool) → commands_from f ns s m i U w ≡ refused NAME → ⊥) → ⊥
      by_number c zero e q again = by_end c (is_end c) q again
      by_number c (suc k) e q again =
          let z : suc k ≡ NAME = ap number_of q in
          omega (arith, z, illegal-range ((illegal-exactly ns s S c (suc k)).0 (e, λ y. omega (arith, y))))

      go : (x : Result Command ℕ) → command_at m at ≡ x → on_command (λ n U w. commands_from f ns s m (at + n) U w) ns s S v x ≡ refused NAME
          → ((i : ℕ) (U : State) (w : Bool) → commands_from f ns s m i U w ≡ refused NAME → ⊥) → ⊥
      go (Err k) e q again =
          let z : k ≡ NAME = ap number_of q in
          ⊎_elim (λ y. omega (arith, z, y)) (λ y. omega (arith, z, y)) (command-refusal m at k e)
      go (Ok c) e q again = by_number c (legal_number ns s S c) refl q again

module _ (tables negotiation message scratch : List ℕ) where
  behind-commands : (s : ℕ) (x : Answer (State × Bool)) → (x ≡ refused NAME → ⊥) → behind_commands s x ≡ refused NAME → ⊥
  behind-commands s (refused k) n q = n (ap refused (ap number_of q))
  behind-commands s (accepted x) n q = false-true (ap is_refused q)

  taken : (T : Tables) (S : State) → taken_in message T S ≡ refused NAME → ⊥
  unfolding taken_in
  taken T S h = by_end (not (eqb S.header.end 0)) (not (sends (sender_to S) S.header.messages)) h
    where
      by_end : (b t : Bool) → cond b (refused ENDED) (cond t (refused TURN)
          (behind_commands (sender_to S) (commands_from (length message) T.names (sender_to S) message 0 S false))) ≡ refused NAME → ⊥
      by_end true t q = omega (arith, ap number_of q)
      by_end false true q = omega (arith, ap number_of q)
      by_end false false q = behind-commands (sender_to S) _ (commands T.names (sender_to S) message (length message) 0 S false) q

  take-no-name : take_of tables negotiation message scratch ≡ refused NAME → ⊥
  unfolding take_of
  take-no-name h = by_size (message_size (length message) (length scratch)) h
    where
      by-standing : (x : Answer (Tables × State)) → restore_of tables negotiation ≡ x → behind_standing message x ≡ refused NAME → ⊥
      by-standing (refused k) e q = found tables negotiation ((unrestored-exactly tables negotiation NAME).0 (e ∙ ap refused (ap number_of q)))
      by-standing (accepted (T, S)) e q = taken T S q

      by_size : (b : Bool) → cond b (behind_standing message (restore_of tables negotiation)) (refused LENGTH) ≡ refused NAME → ⊥
      by_size true q = by-standing (restore_of tables negotiation) refl q
      by_size false q = omega (arith, ap number_of q)

-- Reply and report

module _ (tables negotiation : List ℕ) where
  reply-reasons : {buffer scratch : List ℕ} → ReplyRefused tables negotiation buffer scratch NAME → ⊥
  reply-reasons (size z e) = omega (arith, e)
  reply-reasons (reply-reason.unrestored z u) = found tables negotiation u
  reply-reasons (ended z w g e) = omega (arith, e)
  reply-reasons (out-of-turn z w g x e) = omega (arith, e)

  report-reasons : {i : ℕ} → ReportRefused tables negotiation i NAME → ⊥
  report-reasons (report-reason.unrestored u) = found tables negotiation u
  report-reasons (absent w l e) = omega (arith, e)

-- The calls, on lent bytes

-- the check of tables
pub check-no-name : (s : List ℕ) → check_of s ≡ NAME → ⊥
unfolding check_of
check-no-name s h = (check-numbers s NAME (answer-refused no_value (read_tables s) h)).2 refl

-- begin
pub begin-no-name : (tables negotiation : List ℕ) (other entity name : ℕ) → answer_of no_value (begin_of tables negotiation other entity name) ≡ NAME → ⊥
begin-no-name tables negotiation other entity name h =
    (begin-numbers tables negotiation other entity name NAME (answer-refused no_value (begin_of tables negotiation other entity name) h)).2 refl

-- take, reply and report, and so every call of a list
pub calls-no-name : (tables negotiation : List ℕ) (c : Call) → (left_by tables negotiation c).answer ≡ NAME → ⊥
unfolding left_by left_by_take left_by_reply left_by_report
calls-no-name tables negotiation (take message scratch) h =
    take-no-name tables negotiation message scratch (answer-refused no_value (take_of tables negotiation message scratch) h)
calls-no-name tables negotiation (reply buffer scratch) h =
    reply-reasons tables negotiation
    ((reply-refused-exactly tables negotiation buffer scratch NAME).0 (answer-refused length_of (reply_of tables negotiation buffer scratch) h))
calls-no-name tables negotiation (report node) h =
    report-reasons tables negotiation
    ((report-refused-exactly tables negotiation node NAME).0 (answer-refused packed (report_of tables negotiation node) h))
