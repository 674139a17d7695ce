use Prim.Native.Nat.{◌≤◌}
use native.Mathlib.Omega.{arith}
use native.Mathlib.Nat.{pos_of_ne-zero}
use lib.ListN.{length}
use Rattle.arrange.specs.laws.Arrange.{laid_out, sorted_entries, sorted-bytes}
use Rattle.arrange.proofs.lay_out.Goals as goal

pub write-requires : goal.write-requires
write-requires c = let l = c.split-n.ensures.listed (pos_of_ne-zero c.if-n-eq0.false) in
    let w = c.order.ensures in
    let e = sorted-bytes l w in
    (sorted_entries l.entries w, w.ascend, omega arith)

pub returns : goal.returns
returns c = let l = c.split-n.ensures.listed (pos_of_ne-zero c.if-n-eq0.false) in
    let n : c.write.result ≤ length c.write.new.out = omega (arith, c.write.auto.out) in
    let k : c.write.result ≤ 4096 = omega arith in
    laid_out l c.order.ensures n k c.write.ensures.written
