use Rattle.rules.specs.laws.Digit.{below-low, below-high, below_none}
use native.Mathlib.Omega.{arith}
use Rattle.rules.proofs.digits.least_of.Goals as goal

pub returns-then-lo-ne0 : goal.returns-then-lo-ne0
returns-then-lo-ne0 c = below-low c.args.lo c.args.hi _ c.lowest.ensures.0 c.lowest.ensures.2

pub returns-then-hi-ne0 : goal.returns-then-hi-ne0
returns-then-hi-ne0 c = below-high c.args.lo c.args.hi _ (omega arith) c.lowest-then-hi-ne0.ensures.2

pub returns : goal.returns
returns c = below_none c.args.lo c.args.hi (omega arith) (omega arith)
