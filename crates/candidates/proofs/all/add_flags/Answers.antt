use native.Mathlib.Omega.{arith}
use borrow.Author.Rules.{rules}
use mathlib.Core.Path.{refl}
use Rattle.candidates.specs.laws.Collected.{added_next}
use Rattle.candidates.proofs.all.add_flags.Goals as goal

pub loop-i-preserved : goal.loop-i-preserved
loop-i-preserved c = added_next c.loop-i.invariant (omega arith) refl (search rules) refl
