use Prim.Native.Nat.{ℕ}
use mathlib.Core.List.{List}
use mathlib.Core.Path.{◌≡◌}
use Rattle.rt0.specs.laws.Pool.{pool_of}
use Rattle.candidates.specs.laws.Place.{done_at}
use Rattle.candidates.specs.laws.Offers.{folded, offer}
use Rattle.candidates.specs.laws.Goals.{is_named_head, head_edge}
use Rattle.candidates.proofs.Place.with_heads.Given as goal

abbrev pub invariant-loop-k : goal.invariant-loop-k
invariant-loop-k l = (K N : List ℕ) → l.best ≡ folded l.k (offer (done_at l.self)
    (is_named_head (pool_of l.pool.count l.pool.heads K N) l.on l.r)
    (head_edge (pool_of l.pool.count l.pool.heads K N) l.self.node)) l.initial.best
