use native.Mathlib.Omega.{arith}
use borrow.Author.Tests.{ltb-true}
use Rattle.closure.specs.laws.Laws.{close-less}
use Rattle.closure.proofs.close.Goals as goal

pub loop-more-smaller : goal.loop-more-smaller
loop-more-smaller c = rw c.loop-more-test.true (close-less c.pass-changed.ensures _ (λ e. omega (arith, ltb-true)))
