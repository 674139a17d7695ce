-- A take goes by the public part of the tables. Assumes nothing.
use Rattle.std.specs.Prelude.{ℕ, ◌≡◌, false, not, cond, List, eqb, length}
use Rattle.std.proofs.Common.{sym, ◌∙◌, ap}
use Rattle.tables.specs.Tables.{Tables}
use Rattle.tables.specs.Check.{read_tables}
use Rattle.tables.specs.Public.{Public, public_of}
use Rattle.negotiation.specs.State.{State}
use Rattle.standing.specs.Standing.{restore_of}
use Rattle.standing.specs.laws.StandingPublic as P
use Rattle.take.specs.Commands.{commands_from}
use Rattle.take.specs.Take.{behind_commands, taken_in, behind_standing, message_size, take_of}
use Rattle.standing.specs.Turn.{sends, sender_to}
use Rattle.numbers.specs.Answer.{Answer, refused, accepted}
use Rattle.numbers.specs.Refusals.{LENGTH, TURN, ENDED}

taken-public : (m : List ℕ) (T U : Tables) (S : State) → public_of T ≡ public_of U → taken_in m T S ≡ taken_in m U S
unfolding taken_in public_of
taken-public m T U S e =
    ap (λ (p : Public). cond (not (eqb S.header.end 0)) (refused ENDED)
    (cond (not (sends (sender_to S) S.header.messages)) (refused TURN)
    (behind_commands (sender_to S) (commands_from (length m) p.names (sender_to S) m 0 S false)))) e

pub take-public : (s t : List ℕ) (T U : Tables) → read_tables s ≡ accepted T → read_tables t ≡ accepted U → public_of T ≡ public_of U
    → (negotiation message scratch : List ℕ) → take_of s negotiation message scratch ≡ take_of t negotiation message scratch
unfolding take_of
take-public s t T U h k e negotiation message scratch =
    ap (λ (o : Answer State). cond (message_size (length message) (length scratch)) o (refused LENGTH)) (go (P.restore-alike T U e s t h k negotiation))
  where
    go : P.Alike T U (restore_of s negotiation) (restore_of t negotiation)
        → behind_standing message (restore_of s negotiation) ≡ behind_standing message (restore_of t negotiation)
    go (P.both-refused n a b) = ap (behind_standing message) a ∙ sym (ap (behind_standing message) b)
    go (P.both_found S a b) = ap (behind_standing message) a ∙ taken-public message T U S e ∙ sym (ap (behind_standing message) b)
