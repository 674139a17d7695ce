use native.Mathlib.Omega.{arith}
use Rattle.relation.specs.laws.QuestionLaws.{moved-start, moved-add, moved-skip}
use Rattle.relation.specs.laws.Reached.{no-column, entity-column}
use Rattle.relation.proofs.columns.entity_column.Goals as goal
use Rattle.relation.proofs.columns.entity_column.Goals.{then-bit, else-bit}

pub returns-then-s-ge128 : goal.returns-then-s-ge128
returns-then-s-ge128 c = λ H on h. no-column _ on c.requires c.args.mem.now h c.args.b c.source-s.result c.source-s.ensures c.if-s-ge128.true

pub loop-r-init : goal.loop-r-init
loop-r-init c = moved-start _ _

pub loop-r-preserved : goal.loop-r-preserved
loop-r-preserved c =
    elim c.if-bit.branch [
      | then-bit w ↦ rw w.rows-is (moved-add c.args.mem.now c.source-s.result c.loop-r.r c.loop-r.rows _ c.bit.ensures w.if-bit.true w.mark.ensures
          c.loop-r.invariant)
      | else-bit w ↦ rw w.rows-is (moved-skip c.args.mem.now c.source-s.result c.loop-r.r c.loop-r.rows c.bit.ensures w.if-bit.false
          c.loop-r.invariant)
    ]

pub returns : goal.returns
returns c = λ H on h. entity-column _ on c.requires c.args.mem.now h c.args.b c.source-s.result c.source-s.ensures c.if-s-ge128.false c.loop-r.r
    (omega arith) c.loop-r.rows c.loop-r.invariant
