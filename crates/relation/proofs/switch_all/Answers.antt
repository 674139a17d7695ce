use Prim.Native.Nat.{◌<◌}
use native.Mathlib.Omega.{arith}
use mathlib.Core.Path.{refl}
use Rattle.expression.specs.declared.Expression.TheVariants as E
use Rattle.rules.specs.laws.Digit.{open-bodies}
use Rattle.rules.specs.laws.Ruled.{compiled-plain}
use Rattle.relation.specs.laws.Answer.{related}
use Rattle.relation.specs.laws.QuestionLaws.{switched-none, switched-next, switched-end, start-related, start-more}
use Rattle.relation.proofs.switch_all.Goals as goal

pub returns-then-high-low : goal.returns-then-high-low
returns-then-high-low c = record { switched = switched-none _ _ _ c.if-high-low.true; related = λ H ruled before. before }

pub loop-i-init : goal.loop-i-init
loop-i-init c = (
  switched-none c.args.low c.args.low _ (omega arith),
  λ H ruled before. start-related _ _ c.requires.0 _ before,
)

pub seed-requires : goal.seed-requires
seed-requires c = (
  c.requires.0,
  omega arith,
  c.requires.2.head,
  open-bodies _ _ c.args.pool.now.count _ c.requires.0 c.open_table-open.ensures,
)

pub loop-i-preserved : goal.loop-i-preserved
loop-i-preserved c = let inv = c.loop-i.invariant in
    let l : c.loop-i.i < c.args.pool.now.count = omega arith in (
      switched-next c.args.low c.loop-i.i _ _ _ (omega arith) inv.0 refl,
      λ H ruled before. start-more _ _ c.requires.0 _ _ _ c.loop-i.i l (omega arith) refl (inv.1 H ruled before)
          (c.seed.ensures H (ruled.head.upto c.loop-i.i l)),
    )

pub returns : goal.returns
returns c = let inv = c.loop-i.invariant in record {
  switched = switched-end c.args.low c.loop-i.i c.args.high _ _ (omega arith) (omega arith) inv.0;
  related = λ H ruled before.
      related _ _ c.requires.0 (E.Entity 0) c.args.rules.now (compiled-plain _ c.requires.0 c.args.rules.now ruled) ruled.wide
      _ _ _ (inv.1 H ruled before) c.close.ensures;
}
