-- The negotiation along a run is that of the messages accepted and replies given so far. Assumes nothing.
use Rattle.std.specs.Prelude.{ℕ, ◌≡◌, refl, List, [], ◌∷◌}
use Rattle.std.proofs.Common.{◌∙◌, ap}
use Rattle.negotiation.specs.State.{State}
use Rattle.negotiation.specs.Layout.{state_bytes}
use Rattle.take.specs.Take as K
use Rattle.reply.specs.Reply as A
use Rattle.runs.specs.Runs.{Call, take, reply, report, left_by_take, left_by_reply, left_by_report, left_by, run, last_of, taken_to, given_to, after_call, after}
use Rattle.numbers.specs.Answer.{Answer, refused, accepted, buffer_after}

taken-bytes : (S : State) (o : Answer State) → buffer_after state_bytes (state_bytes S) o ≡ state_bytes (taken_to S o)
taken-bytes S (refused k) = refl
taken-bytes S (accepted N) = refl

given-bytes : (S : State) (o : Answer (List ℕ × State)) → buffer_after A.given_state (state_bytes S) o ≡ state_bytes (given_to S o)
given-bytes S (refused k) = refl
given-bytes S (accepted (m, N)) = refl

-- one call
pub left_after : (tables : List ℕ) (S : State) (c : Call) → (left_by tables (state_bytes S) c).negotiation ≡ state_bytes (after_call tables S c)
unfolding left_by left_by_take left_by_reply left_by_report after_call
left_after tables S (take message scratch) = taken-bytes S (K.take_of tables (state_bytes S) message scratch)
left_after tables S (reply buffer scratch) = given-bytes S (A.reply_of tables (state_bytes S) buffer scratch)
left_after tables S (report node) = refl

-- a list of calls
pub run-after : (tables : List ℕ) (S : State) (cs : List Call) → last_of (state_bytes S) (run tables (state_bytes S) cs) ≡ state_bytes (after tables S cs)
unfolding run last_of after
run-after tables S [] = refl
run-after tables S (c ∷ cs) =
    ap (λ (b : List ℕ). last_of b (run tables b cs)) (left_after tables S c) ∙ run-after tables (after_call tables S c) cs
