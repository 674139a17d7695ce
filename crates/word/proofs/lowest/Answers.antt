use native.Mathlib.Omega.{arith}
use lib.Count.{trailing_le}
use Rattle.word.specs.laws.Bit.{lowest-in}
use Rattle.word.proofs.lowest.Goals as goal

pub overflow_cast-result : goal.overflow_cast-result
overflow_cast-result c = omega (arith, trailing_le 64 c.args.m)

pub returns : goal.returns
returns c = lowest-in c.args.m c.requires c.ranges.m.fits
