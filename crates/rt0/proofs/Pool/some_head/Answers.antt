use Rattle.rt0.specs.laws.Heads.{none-of-eight}
use Rattle.rt0.proofs.Pool.some_head.Goals as goal

pub returns : goal.returns
returns c = λ p k z. none-of-eight _ (c.has_head.ensures p k) (c.has_head-2.ensures p k) (c.has_head-3.ensures p k)
    (c.has_head-4.ensures p k) (c.has_head-5.ensures p k) (c.has_head-6.ensures p k) (c.has_head-7.ensures p k)
    (c.has_head-8.ensures p k) z
