use Prim.Native.Nat.{ℕ, ◌%◌, ◌^◌}
use native.Mathlib.Nat.{one-mul, mod-eq_of_lt}
use lib.Pow.{pow-lt}
use mathlib.Core.Path.{ap, ◌∙◌}
use Rattle.word.specs.laws.Bit.{only}
use Rattle.word.proofs.one.Goals as goal

pub returns : goal.returns
unfolding only
returns c = ap (λ (x : ℕ). x % 2 ^ 64) (one-mul (2 ^ c.args.i)) ∙ mod-eq_of_lt (pow-lt c.requires)
