use native.Mathlib.Omega.{arith}
use Rattle.sending.specs.laws.Relevant.{selected-start, selected-next, selected-all}
use Rattle.sending.proofs.pool.push_range.Goals as goal

pub loop-i-init : goal.loop-i-init
loop-i-init c = λ n l. selected-start _ (omega arith)

pub push_flagged-requires : goal.push_flagged-requires
push_flagged-requires c =
    let was = c.loop-i.invariant c.args.b (omega arith) in
    (omega arith, omega (arith, was.few))

pub loop-i-preserved : goal.loop-i-preserved
loop-i-preserved c = λ n l.
    selected-next _ _ c.loop-i.i (c.loop-i.invariant n l) (omega arith) (omega arith) (omega arith) c.push_flagged.ensures

pub returns : goal.returns
returns c = λ n l. selected-all _ _ (omega arith) (c.loop-i.invariant n l)
