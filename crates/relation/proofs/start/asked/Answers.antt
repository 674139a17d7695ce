use Prim.Native.Nat.{◌+◌}
use native.Mathlib.Omega.{arith}
use mathlib.Core.List.{[]}
use Rattle.relation.specs.laws.Question.{AskedTo}
use Rattle.relation.specs.laws.QuestionLaws.{by-raw, asked-start, asked-add, asked-skip, asked-end}
use Rattle.relation.proofs.start.asked.Goals as goal
use Rattle.relation.proofs.start.asked.Goals.{then-starts, else-starts}

pub mark-requires : goal.mark-requires
mark-requires c = ((c.own_row-r.ensures [] []).small, omega arith)

pub row-todo-requires : goal.row-todo-requires
row-todo-requires c = (c.own_row-r.ensures [] []).small

pub loop-i-init : goal.loop-i-init
loop-i-init c =
    by-raw (λ e. AskedTo c.args.pool.now c.args.on.now c.args.mem.now e 0 _) c.args.e c.raw_of-raw.ensures
    (asked-start c.args.pool.now c.args.on.now c.args.mem.now c.requires.0 c.requires.3 c.args.e c.own_row-r.result _ _ c.requires.4
    (c.own_row-r.ensures _ _) c.mark.ensures)

pub loop-i-preserved : goal.loop-i-preserved
loop-i-preserved c = let P = c.args.pool.now in
    let q = c.raw_of-raw.ensures in
    let starts = c.starts.ensures P.count P.heads c.args.e q (c.requires.2.upto c.loop-i.i (omega arith)) c.own_source-s.ensures in
    by-raw (λ e. AskedTo P c.args.on.now c.args.mem.now e (c.loop-i.i + 1) c.if-starts.rows) c.args.e q (elim c.if-starts.branch [
      | then-starts w ↦ rw w.rows-is (asked-add P c.args.on.now c.args.mem.now c.requires.0 c.requires.3 c.args.e c.loop-i.i _
          c.loop-i.rows _ (omega arith) starts w.if-starts.true (c.requires.1.upto c.loop-i.i (omega arith)) w.mark-then-starts.ensures
          (c.loop-i.invariant c.args.e q))
      | else-starts w ↦ rw w.rows-is (asked-skip P c.args.on.now c.args.mem.now c.requires.0 c.requires.3 c.args.e c.loop-i.i
          c.loop-i.rows starts w.if-starts.false (c.loop-i.invariant c.args.e q))
    ])

pub returns : goal.returns
returns c =
    asked-end c.args.pool.now c.args.on.now c.args.mem.now c.requires.0 c.requires.3 c.args.e c.loop-i.i c.loop-i.rows (omega arith)
    (c.loop-i.invariant c.args.e c.raw_of-raw.ensures)
