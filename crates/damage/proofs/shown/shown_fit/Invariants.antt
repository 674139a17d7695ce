use Rattle.class.specs.laws.Names.{names_of}
use Rattle.rt0.specs.laws.Pool.{credential_at}
use Rattle.damage.specs.Records.{credential_fits}
use Rattle.damage.specs.laws.Turns.{Judged}
use Rattle.damage.proofs.shown.shown_fit.Given as goal

abbrev pub invariant-loop-i : goal.invariant-loop-i
invariant-loop-i l = Judged (credential_fits (names_of l.names)) (credential_at l.shown) l.shown.count l.i
