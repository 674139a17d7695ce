use Prim.Native.Nat.{◌+◌, ◌-◌}
use native.Mathlib.Omega.{arith}
use mathlib.Core.Path.{◌≡◌}
use Rattle.sending.specs.laws.Fresh.{among-at, among_none}
use Rattle.sending.proofs.unshown.is_among.Goals as goal

pub returns-then-is_at : goal.returns-then-is_at
returns-then-is_at c = let d = c.args.c in
    let k = c.key_of-key.ensures in
    let q = c.raw_of-raw.ensures in
    let at : c.args.a + (c.loop-i.i - c.args.a) ≡ c.loop-i.i = omega arith in
    among-at _ _ _ (c.loop-i.invariant d k q) (omega arith) (rw at (c.is_at.ensures d k q)) c.if-is_at.true

pub returns : goal.returns
returns c = among_none _ _ _ (c.loop-i.invariant c.args.c c.key_of-key.ensures c.raw_of-raw.ensures) (omega arith)
