use native.Mathlib.Omega.{arith}
use borrow.Author.Rules.{rules}
use mathlib.Core.Path.{refl}
use Rattle.moves.specs.laws.Stops.{told-next}
use Rattle.candidates.proofs.all.flagged.Goals as goal

pub loop-k-preserved : goal.loop-k-preserved
loop-k-preserved c = told-next _ _ c.loop-k.invariant (omega arith) c.body.ensures c.is_from.ensures (search rules) refl
