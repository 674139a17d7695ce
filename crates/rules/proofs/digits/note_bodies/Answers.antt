use mathlib.Core.Path.{refl}
use native.Mathlib.Omega.{arith}
use Rattle.rules.specs.laws.Digit.{bodies-start, bodies-add, bodies-skip, bodies-end}
use Rattle.rules.proofs.digits.note_bodies.Goals as goal
use Rattle.rules.proofs.digits.note_bodies.Goals.{then-pool-j-eq1, else-pool-j-eq1}

pub loop-j-init : goal.loop-j-init
loop-j-init c = bodies-start c.args.pool.now.kinds c.args.pool.now.numbers c.args.body.now (omega arith)

pub loop-j-preserved : goal.loop-j-preserved
loop-j-preserved c =
    elim c.if-pool-j-eq1.branch [
      | then-pool-j-eq1 w ↦ rw w.body-is (bodies-add c.args.pool.now.kinds c.args.pool.now.numbers c.loop-j.j _ c.loop-j.body _ refl w.note.ensures
          c.loop-j.invariant)
      | else-pool-j-eq1 w ↦ rw w.body-is (bodies-skip c.args.pool.now.kinds c.args.pool.now.numbers c.loop-j.j c.loop-j.body
          w.if-pool-j-eq1.false c.loop-j.invariant)
    ]

pub returns : goal.returns
returns c =
    bodies-end c.args.pool.now.kinds c.args.pool.now.numbers c.loop-j.j c.args.pool.now.count _ (omega arith) (omega arith)
    c.loop-j.invariant
