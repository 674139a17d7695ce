use Rattle.word.specs.laws.Bools.{false-true}
use Rattle.propagation.proofs.failing.Failures.fail_childless.Goals as goal

pub loop-i-preserved : goal.loop-i-preserved
loop-i-preserved c = (
  c.fail_node.ensures.0,
  λ m F S w. c.fail_node.ensures.1 m F S (λ e. absurd (false-true e)) (c.loop-i.invariant.1 m F S w),
)
