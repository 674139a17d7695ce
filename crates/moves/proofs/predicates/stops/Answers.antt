use native.Mathlib.Omega.{arith}
use borrow.Author.Rules.{rules}
use mathlib.Core.Path.{refl}
use Rattle.moves.specs.laws.Stops.{told-start, told-next, told-all}
use Rattle.moves.proofs.predicates.stops.Goals as goal

pub loop-i-init : goal.loop-i-init
loop-i-init c H = told-start _ _ _ refl

pub loop-i-preserved : goal.loop-i-preserved
loop-i-preserved c H = told-next _ _ (c.loop-i.invariant H) (omega arith) c.body.ensures c.is_stop.ensures (search rules) refl

pub returns : goal.returns
returns c H = told-all _ _ (c.loop-i.invariant H) (omega arith)
