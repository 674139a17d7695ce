-- Cases (i) and (j) as two runs of House over one list of calls (document 01, "Two runs" and "Marked cases"). Assumes nothing.
use Rattle.std.specs.Prelude.{ℕ, ◌*◌, ◌≡◌, List, [], ◌∷◌, ◌++◌, map}
use Rattle.expression.specs.declared.Role.{Role}
use Rattle.expression.specs.declared.Expression.TheVariants as E
use Rattle.rt0.specs.From.{role_of}
use Rattle.numbers.specs.Answer.{accepted}
use Rattle.tables.specs.Tables.{Tables}
use Rattle.tables.specs.Bytes.{tables_bytes}
use Rattle.tables.specs.Public.{DifferOnly}
use Rattle.negotiation.specs.State.{State, fresh_state}
use Rattle.negotiation.specs.Layout.{state_bytes}
use Rattle.begin.specs.Begin.{begin_of}
use Rattle.reply.specs.Cases.{house, first_message, third_message}
use Rattle.runs.specs.Runs.{Call, take, reply, Left, run, after, Differing, NoneSatisfied, AckSatisfied}

-- House of (i), which holds 4.3, and House of (j)
abbrev pub holding : Tables
holding = house (record { head = role_of 4 3; body = E.Entity 2 } ∷ [])

abbrev pub lacking : Tables
lacking = house []

-- 4.3 and its Ack role
abbrev pub sensitive_role : Role
sensitive_role = role_of 4 3

abbrev pub ack_role : Role
ack_role = role_of 1 2

-- House begins as the requester towards Studio 3
abbrev pub begun : State
begun = fresh_state 1 2 3 (role_of 0 0)

-- the first message is taken and the second given, the third is taken, the fourth given
abbrev pub to_second : List ℕ → List ℕ → List Call
to_second buffer scratch = take first_message scratch ∷ reply buffer scratch ∷ []

abbrev pub to_third : List ℕ → List ℕ → List Call
to_third buffer scratch = to_second buffer scratch ++ (take third_message scratch ∷ [])

abbrev pub to_fourth : List ℕ → List ℕ → List Call
to_fourth buffer scratch = to_third buffer scratch ++ (reply buffer scratch ∷ [])

abbrev pub answers : List Left → List ℕ
answers ls = map (λ (l : Left). l.answer) ls

-- The tables differ in 4.3 alone. Its Ack target is unsatisfied behind the second message and satisfied in both runs behind the third; the
-- fourth parts them: 48 bytes, and the 3 of a mark and an end. A reply's answer is 256 times its length.
pub record Parted (negotiation buffer scratch : List ℕ) : Type 0 where
  pub differ : DifferOnly holding lacking
  pub differing : Differing holding lacking sensitive_role
  pub begun-holding : begin_of (tables_bytes holding) negotiation 3 0 0 ≡ accepted begun
  pub begun-lacking : begin_of (tables_bytes lacking) negotiation 3 0 0 ≡ accepted begun
  pub unsatisfied : NoneSatisfied holding lacking (after (tables_bytes holding) begun (to_second buffer scratch))
  pub satisfied-holding : AckSatisfied (after (tables_bytes holding) begun (to_third buffer scratch)) ack_role
  pub satisfied-lacking : AckSatisfied (after (tables_bytes lacking) begun (to_third buffer scratch)) ack_role
  pub answers-holding : answers (run (tables_bytes holding) (state_bytes begun) (to_fourth buffer scratch)) ≡ 0 ∷ 25 * 256 ∷ 0 ∷ 48 * 256 ∷ []
  pub answers-lacking : answers (run (tables_bytes lacking) (state_bytes begun) (to_fourth buffer scratch)) ≡ 0 ∷ 25 * 256 ∷ 0 ∷ 3 * 256 ∷ []
