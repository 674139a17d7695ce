use native.Mathlib.Nat.{le_antisymm, sub_self}
use mathlib.Core.Path.{sym, ap, ◌∙◌}
use Prim.Native.Nat.{ℕ, ◌-◌}
use mathlib.Core.List.{List}
use lib.ListN.{set}
use lib.Seq.{paste, paste-zero}
use Rattle.negotiation.specs.Layout.{zeros}
use Rattle.negotiation.specs.laws.Layout.{zero-next, zeros-all}
use Rattle.negotiation.proofs.encode.write_zeros.Goals as goal

pub loop-i-init : goal.loop-i-init
loop-i-init c = let z : List ℕ = zeros (c.args.to - c.args.from) in
    paste-zero c.args.buf.now c.args.from z ∙ ap (paste c.args.buf.now c.args.from z) (sym (sub_self c.args.from))

pub loop-i-preserved : goal.loop-i-preserved
loop-i-preserved c =
    ap (λ (l : List ℕ). set l c.loop-i.i 0) c.loop-i.invariant
    ∙ zero-next c.args.buf.now c.args.from c.args.to c.loop-i.i c.loop-i.auto.i c.loop-i-test.true c.requires.1

pub returns : goal.returns
returns c = c.loop-i.invariant ∙ zeros-all c.args.buf.now c.args.from c.args.to c.loop-i.i (le_antisymm (c.loop-i.auto.i-end c.requires.0) c.loop-i-test.false)
