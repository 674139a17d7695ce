use mathlib.Core.Path.{refl}
use native.Mathlib.Omega.{arith}
use Rattle.rules.specs.laws.Digit.{heads-start, heads-add, heads-end}
use Rattle.rules.proofs.digits.HeadTables.note_heads.Goals as goal

pub loop-j-init : goal.loop-j-init
loop-j-init c = heads-start c.args.pool.now.heads _ _ (omega arith) (omega arith)

pub loop-j-preserved : goal.loop-j-preserved
loop-j-preserved c =
    heads-add c.args.pool.now.heads c.loop-j.j _ _ c.loop-j.self.entity _ c.loop-j.self.name _ refl refl c.note.ensures c.note-in-loop-j.ensures
    c.loop-j.invariant

pub returns : goal.returns
returns c = heads-end c.args.pool.now.heads c.loop-j.j c.args.pool.now.count _ _ (omega arith) (omega arith) c.loop-j.invariant
