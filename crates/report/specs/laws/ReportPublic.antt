-- A report goes by the public part of the tables. Assumes nothing.
use Rattle.std.specs.Prelude.{ℕ, ◌≡◌, List}
use Rattle.std.proofs.Common.{sym, ◌∙◌, ap}
use Rattle.tables.specs.Tables.{Tables}
use Rattle.tables.specs.Check.{read_tables}
use Rattle.tables.specs.Public.{public_of}
use Rattle.standing.specs.Standing.{restore_of}
use Rattle.standing.specs.laws.StandingPublic.{Alike, both-refused, both_found, restore-alike}
use Rattle.report.specs.Report.{behind_negotiation, report_of}
use Rattle.numbers.specs.Answer.{accepted}

pub report-public : (s t : List ℕ) (T U : Tables) → read_tables s ≡ accepted T → read_tables t ≡ accepted U → public_of T ≡ public_of U
    → (negotiation : List ℕ) (i : ℕ) → report_of s negotiation i ≡ report_of t negotiation i
unfolding report_of
report-public s t T U h k e negotiation i = go (restore-alike T U e s t h k negotiation)
  where
    go : Alike T U (restore_of s negotiation) (restore_of t negotiation)
        → behind_negotiation i (restore_of s negotiation) ≡ behind_negotiation i (restore_of t negotiation)
    go (both-refused n a b) = ap (behind_negotiation i) a ∙ sym (ap (behind_negotiation i) b)
    go (both_found S a b) = ap (behind_negotiation i) a ∙ sym (ap (behind_negotiation i) b)
