use Rattle.std.specs.Prelude.{◌≡◌, take}
use Rattle.negotiation.specs.Layout.{same_bytes}
use Rattle.negotiation.proofs.decode.same_bytes.Given as goal

abbrev pub invariant-loop-i : goal.invariant-loop-i
invariant-loop-i l = l.same ≡ same_bytes (take l.i l.a) (take l.i l.b)
