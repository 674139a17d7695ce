use native.Mathlib.Omega.{arith}
use Rattle.rules.specs.laws.Column.{name-start, name-add, name-skip, name-end}
use Rattle.rules.proofs.linking.name_row.Goals as goal
use Rattle.rules.proofs.linking.name_row.Goals.{then-is_named, else-is_named}

pub loop-j-init : goal.loop-j-init
loop-j-init c = λ K N. name-start _ c.args.able.now c.args.i c.args.m c.args.named.now (omega arith)

pub loop-j-preserved : goal.loop-j-preserved
loop-j-preserved c = λ K N. elim c.if-is_named.branch [
  | then-is_named w ↦ rw w.named-is (name-add _ c.args.able.now c.args.i c.args.m c.args.named.now c.loop-j.j c.loop-j.named _
      c.is_named.ensures w.if-is_named.true (c.loop-j.invariant K N) w.mark.ensures)
  | else-is_named w ↦ rw w.named-is (name-skip _ c.args.able.now c.args.i c.args.m c.args.named.now c.loop-j.j c.loop-j.named
      c.is_named.ensures w.if-is_named.false (c.loop-j.invariant K N))
]

pub returns : goal.returns
returns c = λ K N. name-end _ c.args.able.now c.args.i c.args.m c.args.named.now c.loop-j.j c.args.pool.now.count c.loop-j.named (omega arith)
    (omega arith) (c.loop-j.invariant K N)
