use mathlib.Core.Path.{ap}
use Prim.Native.Nat.{ℕ, ◌+◌, ◌*◌}
use native.Mathlib.Omega.{arith}
use lib.ListN.{length}
use Rattle.rt0.specs.laws.Added.{count-length, length-up_to}
use Rattle.negotiation.specs.Layout.{credential_from}
use Rattle.negotiation.proofs.decode.read_shown.Goals as goal

-- as many were pushed as were read
pub push-requires : goal.push-requires
push-requires c =
    omega (arith, count-length c.loop-k.shown, ap length c.loop-k.invariant, length-up_to c.loop-k.k (λ (k : ℕ). credential_from c.args.s.now (3712 + k * 22)))
