use Prim.Native.Nat.{ℕ}
use mathlib.Core.List.{List}
use mathlib.Core.Path.{◌≡◌}
use Rattle.rt0.specs.laws.Pool.{pool_of}
use Rattle.moves.specs.declared.Choice.TheVariants as C
use Rattle.candidates.specs.laws.Place.{done_at}
use Rattle.candidates.specs.laws.Offers.{folded, offer}
use Rattle.candidates.specs.laws.Members.{is_member, member_edge}
use Rattle.candidates.proofs.Place.with_members.Given as goal

abbrev pub invariant-loop-k : goal.invariant-loop-k
invariant-loop-k l = (H : List ℕ) → l.best ≡ folded l.k (offer (done_at l.self)
    (is_member (pool_of l.pool.count H l.pool.kinds l.pool.numbers) l.stop l.found l.entities l.self.node)
    (member_edge (pool_of l.pool.count H l.pool.kinds l.pool.numbers) l.self.node)) C.Nothing
