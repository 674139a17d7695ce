use mathlib.Core.Path.{sym, ◌∙◌}
use native.Mathlib.Omega.{arith}
use Rattle.rules.specs.laws.Column.{names-start, names-skip, names-end}
use Rattle.rules.proofs.linking.names.Goals as goal
use Rattle.rules.proofs.linking.names.Goals.{then-has_link, else-has_link}

pub loop-i-init : goal.loop-i-init
loop-i-init c = (names-start c.args.pool.now c.args.able.now, omega arith)

pub loop-i-preserved : goal.loop-i-preserved
loop-i-preserved c =
    elim c.if-has_link.branch [
      | then-has_link w ↦ rw (w.named-is, w.k-is) (w.name_next.ensures, omega arith)
      | else-has_link w ↦ rw (w.named-is, w.k-is) (
        names-skip c.args.pool.now c.args.able.now c.loop-i.i c.loop-i.named (sym c.has_link.ensures ∙ w.if-has_link.false)
            c.loop-i.invariant.0,
        c.loop-i.invariant.1,
      )
    ]

pub returns : goal.returns
returns c =
    names-end c.args.pool.now c.args.able.now c.loop-i.i c.args.pool.now.count c.loop-i.named (omega arith) (omega arith)
    c.loop-i.invariant.0
