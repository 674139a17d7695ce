use mathlib.Core.Path.{refl}
use Rattle.rules.specs.laws.Columns.{copied}
use Rattle.rules.proofs.linking.copy_row.Goals as goal

pub returns : goal.returns
unfolding copied
returns c = refl
