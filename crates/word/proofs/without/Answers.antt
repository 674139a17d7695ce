use mathlib.Core.Path.{ap}
use lib.Bits.{bit_xor}
use Rattle.word.specs.laws.Bit.{only, without}
use Rattle.word.proofs.without.Goals as goal

pub returns : goal.returns
unfolding only without
returns c = ap (bit_xor c.args.m) c.one.ensures
