use Prim.Native.Nat.{ℕ}
use mathlib.Core.Path.{ap}
use lib.Dec.{eqb}
use Rattle.word.specs.laws.Bit.{bit_at, test-is}
use Rattle.word.proofs.test.Goals as goal

pub returns : goal.returns
unfolding bit_at
returns c = ap (λ (x : ℕ). eqb x 1) (test-is c.args.w c.args.i)
