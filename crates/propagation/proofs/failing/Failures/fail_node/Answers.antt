use mathlib.Core.Path.{sym, ◌∙◌}
use native.Mathlib.Omega.{arith}
use Rattle.propagation.specs.laws.FailingLaws.{failing-node}
use Rattle.propagation.proofs.failing.Failures.fail_node.Goals as goal

pub returns-then-fails : goal.returns-then-fails
returns-then-fails c = (omega arith, λ m F S k w. failing-node _ _ _ _ _ w _ _ c.requires.0 k (sym c.fails.ensures ∙ c.if-fails.true))
