use Prim.Native.Nat.{ℕ, ◌-◌, ◌≤◌}
use Rattle.rt0.specs.laws.Pool.{pool_of}
use Rattle.sending.specs.laws.Relevant.{Selected}
use Rattle.sending.proofs.pool.push_range.Given as goal

abbrev pub invariant-loop-i : goal.invariant-loop-i
invariant-loop-i l = (n : ℕ) → l.b ≤ n → Selected (pool_of n l.pool.heads l.pool.kinds l.pool.numbers) l.flags l.a (l.i - l.a) l.initial.to l.to
