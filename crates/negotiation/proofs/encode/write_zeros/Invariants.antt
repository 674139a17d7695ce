use Rattle.std.specs.Prelude.{◌≡◌, ◌-◌}
use lib.Seq.{paste}
use Rattle.negotiation.specs.Layout.{zeros}
use Rattle.negotiation.proofs.encode.write_zeros.Given as goal

abbrev pub invariant-loop-i : goal.invariant-loop-i
invariant-loop-i l = l.buf ≡ paste l.initial.buf l.from (zeros (l.to - l.from)) (l.i - l.from)
