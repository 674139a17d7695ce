use mathlib.Core.List.{[]}
use native.Mathlib.Omega.{arith}
use Rattle.rt0.specs.laws.Pool.{pool_of}
use Rattle.rules.specs.laws.Exact.{body-one}
use Rattle.relation.specs.laws.QuestionLaws.{seed-none, seed-mark, body-bit}
use Rattle.relation.proofs.direct.seed.Goals as goal

pub returns-then-pool-i-ne1 : goal.returns-then-pool-i-ne1
returns-then-pool-i-ne1 c = λ H h. seed-none _ c.requires.0 c.args.i c.args.rows.now (omega arith) c.if-pool-i-ne1.true

pub mark-requires : goal.mark-requires
mark-requires c = let P = pool_of c.args.pool.now.count [] c.args.pool.now.kinds c.args.pool.now.numbers in (
  c.requires.2.under c.args.i,
  body-bit P c.requires.0 c.args.i _ c.find_source-s.result c.requires.1 (body-one P c.requires.0 c.args.i c.if-pool-i-ne1.false)
      c.find_source-s.ensures,
)

pub returns : goal.returns
returns c = λ H h. let P = pool_of c.args.pool.now.count H c.args.pool.now.kinds c.args.pool.now.numbers in
    seed-mark P c.args.i c.args.rows.now _ _ c.find_source-s.result _ (body-one P c.requires.0 c.args.i c.if-pool-i-ne1.false) h
    c.find_source-s.ensures c.mark.ensures
