use Rattle.rules.specs.laws.Digit.{open-start}
use Rattle.rules.proofs.digits.open_table.Goals as goal

pub returns : goal.returns
returns c = open-start
