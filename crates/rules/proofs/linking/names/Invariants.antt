use Prim.Native.Nat.{◌<◌}
use Rattle.rules.specs.laws.Columns.{NamesTo}
use Rattle.rules.proofs.linking.names.Given as goal

abbrev pub invariant-loop-i : goal.invariant-loop-i
invariant-loop-i l = NamesTo l.pool l.able l.i l.named × (l.k < 128)
