use mathlib.Core.Path.{sym, ◌∙◌, refl}
use Rattle.propagation.specs.laws.FailingLaws.{drop_all}
use Rattle.propagation.proofs.failing.Failures.drop_edge.Goals as goal

pub overflow_sub-self : goal.overflow_sub-self
overflow_sub-self c = let here = sym c.is_at.ensures ∙ c.if-is_at.true in
    let r = drop_all _ _ _ _ _ c.requires.1.2 _ _ _ c.requires.1.1 refl refl here c.if-self-j-ne1.true in
    r.1

pub returns-then-self-j-ne1 : goal.returns-then-self-j-ne1
returns-then-self-j-ne1 c = let here = sym c.is_at.ensures ∙ c.if-is_at.true in (
  c.fail_node.ensures.0,
  λ m l w. let r = drop_all _ _ _ _ _ w _ _ _ l refl refl here c.if-self-j-ne1.true in c.fail_node.ensures.1 _ _ _ (λ z. r.2) r.3,
)
