use Prim.Native.Nat.{ℕ}
use mathlib.Core.List.{List}
use mathlib.Core.Path.{◌≡◌}
use Rattle.rt0.specs.laws.Pool.{pool_of}
use Rattle.moves.specs.declared.Choice.TheVariants as C
use Rattle.candidates.specs.laws.Place.{done_at}
use Rattle.candidates.specs.laws.Offers.{folded}
use Rattle.candidates.specs.laws.All.{offer_roles}
use Rattle.candidates.proofs.Place.with_roles.Given as goal

abbrev pub invariant-loop-k : goal.invariant-loop-k
invariant-loop-k l = (H : List ℕ) → l.best ≡ folded l.k (offer_roles (done_at l.self)
    (pool_of l.pool.count H l.pool.kinds l.pool.numbers) l.flags l.self.node l.r) C.Nothing
