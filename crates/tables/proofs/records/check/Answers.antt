use mathlib.Core.Path.{ap}
use mathlib.Core.Bool.{not}
use Rattle.numbers.specs.Answer.{answer_of, no_value}
use Rattle.tables.specs.Check.{check_of}
use Rattle.tables.specs.laws.DecodingLaws.{tables-outside}
use Rattle.tables.proofs.records.check.Goals as goal

pub returns-then-not-sized : goal.returns-then-not-sized
unfolding check_of
returns-then-not-sized c = ap (answer_of no_value) (tables-outside c.args.s.now c.sized.ensures (ap not c.if-not-sized.true))
