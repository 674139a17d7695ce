-- While no differing role's Ack target is satisfied, our end is the same in two runs, and with it the next move (document 01, "Two runs").
-- Assumes nothing.
use Rattle.std.specs.Prelude.{◌≡◌, false}
use Rattle.std.proofs.Math.Path.{ap}
use Rattle.tables.specs.Tables.{Tables}
use Rattle.tables.specs.Public.{Public, public_of, hidden_of}
use Rattle.negotiation.specs.State.{State}
use Rattle.moves.specs.Known.{known_of}
use Rattle.moves.specs.laws.Known.{is_disclosed}
use Rattle.moves.proofs.laws.Known.{known_alike}
use Rattle.moves.specs.Rules.{end_in}
use Rattle.moves.specs.Move.{next_move}

module _ (T U : Tables) (e : public_of T ≡ public_of U) (S : State) (h : is_disclosed T U S ≡ false) where
  same-sensitive : T.sensitive ≡ U.sensitive
  unfolding public_of
  same-sensitive = ap (λ (p : Public). p.sensitive) e

  pub end-alike : end_in T S ≡ end_in U S
  unfolding end_in
  end-alike =
      let k : known_of (hidden_of T) T.sensitive S
      ≡ known_of (hidden_of U) U.sensitive S = known_alike T U S same-sensitive h in λ i. record { tables = e i; known = k i; state = S }

  pub move-alike : next_move (end_in T S) ≡ next_move (end_in U S)
  move-alike = ap next_move end-alike
