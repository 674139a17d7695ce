use Rattle.rules.specs.laws.Digit.{noted}
use Rattle.rules.proofs.digits.note.Goals as goal

pub returns : goal.returns
returns c = noted c.args.x c.args.j c.args.table.now _ _ _ c.mark.ensures c.mark-2.ensures c.mark-3.ensures
