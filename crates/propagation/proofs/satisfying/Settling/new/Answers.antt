use mathlib.Core.List.{[]}
use native.Mathlib.Omega.{arith}
use Rattle.propagation.specs.laws.Satisfied.{graph}
use Rattle.propagation.specs.laws.WorkLaws.{start}
use Rattle.propagation.proofs.satisfying.Settling.new.Goals as goal

pub seed-requires : goal.seed-requires
seed-requires c = (c.requires.0, c.requires.1, ([], [], start (graph [] [] c.args.need.now) (λ j. omega arith)))

pub returns : goal.returns
returns c F S slots = (c.empty.ensures F, c.seed.ensures F S (start (graph F S c.args.need.now) slots))
