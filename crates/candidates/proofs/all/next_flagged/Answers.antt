use native.Mathlib.Omega.{arith}
use mathlib.Core.Path.{refl}
use borrow.Author.Tests.{eq-eqb, ne_eqb}
use Rattle.candidates.specs.laws.Skipped.{skipped-start, skipped-next}
use Rattle.candidates.proofs.all.next_flagged.Goals as goal

pub loop-k-init : goal.loop-k-init
loop-k-init c = skipped-start _ c.requires.1

pub returns-then-flags-k-eq1 : goal.returns-then-flags-k-eq1
returns-then-flags-k-eq1 c = (c.loop-k.invariant, λ l. eq-eqb _ 1 c.if-flags-k-eq1.true)

pub loop-k-preserved : goal.loop-k-preserved
loop-k-preserved c = skipped-next _ c.loop-k.invariant (omega arith) refl (ne_eqb _ 1 c.if-flags-k-eq1.false)
