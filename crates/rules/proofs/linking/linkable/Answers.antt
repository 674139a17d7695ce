use mathlib.Core.Path.{ap}
use mathlib.Core.Bool.{not}
use native.Mathlib.Omega.{arith}
use borrow.Author.Tests.{not-true}
use Rattle.rules.specs.laws.Column.{able-start, able-off, able-add, able-skip, able-end}
use Rattle.rules.proofs.linking.linkable.Goals as goal
use Rattle.rules.proofs.linking.linkable.Goals.{then-s-lt128, else-s-lt128}

pub returns-then-not-lit : goal.returns-then-not-lit
returns-then-not-lit c = able-off c.args.pool.now c.args.lit c.args.pool.now.count (not-true c.args.lit (ap not c.if-not-lit.true))

pub loop-j-init : goal.loop-j-init
loop-j-init c = able-start c.args.pool.now c.args.lit

pub loop-j-preserved : goal.loop-j-preserved
loop-j-preserved c =
    elim c.if-s-lt128.branch [
      | then-s-lt128 w ↦ rw (w.src-is, w.able-is) (able-add c.args.pool.now c.requires.0 c.args.lit c.loop-j.src c.loop-j.able c.loop-j.j
          c.link_source-s.result (omega arith) c.link_source-s.ensures w.if-s-lt128.true c.loop-j.invariant)
      | else-s-lt128 w ↦ rw (w.src-is, w.able-is) (able-skip c.args.pool.now c.args.lit c.loop-j.src c.loop-j.able c.loop-j.j
          c.link_source-s.result c.link_source-s.ensures c.requires.0 w.if-s-lt128.false c.loop-j.invariant)
    ]

pub returns : goal.returns
returns c = able-end c.args.pool.now c.args.lit c.loop-j.src c.loop-j.able c.loop-j.j c.args.pool.now.count (omega arith) (omega arith) c.loop-j.invariant
