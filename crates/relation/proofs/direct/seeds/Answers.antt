use native.Mathlib.Omega.{arith}
use Rattle.rt0.specs.laws.Pool.{pool_of}
use Rattle.relation.specs.laws.QuestionLaws.{start-start, start-add, start-skip, start-end}
use Rattle.relation.proofs.direct.seeds.Goals as goal
use Rattle.relation.proofs.direct.seeds.Goals.{then-on-i-eq1, else-on-i-eq1}

pub loop-i-init : goal.loop-i-init
loop-i-init c = λ H h. start-start _ c.args.on.now c.requires.0

pub loop-i-preserved : goal.loop-i-preserved
loop-i-preserved c = λ H h. let P = pool_of c.args.pool.now.count H c.args.pool.now.kinds c.args.pool.now.numbers in
    elim c.if-on-i-eq1.branch [
      | then-on-i-eq1 w ↦ rw w.rows-is (start-add P c.args.on.now c.requires.0 c.loop-i.i c.loop-i.rows _ (omega arith) w.if-on-i-eq1.true
          (w.seed.ensures H (h.upto c.loop-i.i (omega arith))) (c.loop-i.invariant H h))
      | else-on-i-eq1 w ↦ rw w.rows-is (start-skip P c.args.on.now c.requires.0 c.loop-i.i c.loop-i.rows w.if-on-i-eq1.false
          (c.loop-i.invariant H h))
    ]

pub returns : goal.returns
returns c H h = start-end _ c.args.on.now c.requires.0 c.loop-i.i c.loop-i.rows (omega arith) (c.loop-i.invariant H h)
