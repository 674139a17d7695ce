use Rattle.std.specs.Prelude.{◌≡◌, ℕ, ◌+◌, ◌*◌}
use Rattle.rt0.specs.laws.Pool.{credentials}
use Rattle.rt0.specs.Pool.{up_to}
use Rattle.negotiation.specs.Layout.{credential_from}
use Rattle.negotiation.proofs.decode.read_shown.Given as goal

abbrev pub invariant-loop-k : goal.invariant-loop-k
invariant-loop-k l = credentials l.shown ≡ up_to l.k (λ (k : ℕ). credential_from l.s (3712 + k * 22))
