use mathlib.Core.Path.{refl}
use Rattle.damage.specs.laws.Edges.{placed-is}
use Rattle.damage.proofs.edges.placed.Goals as goal

pub returns : goal.returns
returns c = placed-is _ _ _ refl refl refl
