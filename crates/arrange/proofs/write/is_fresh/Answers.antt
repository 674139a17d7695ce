use Prim.Native.Nat.{◌-◌, ◌<◌}
use mathlib.Core.Path.{refl}
use native.Mathlib.Omega.{arith}
use lib.ListN.{length}
use Rattle.arrange.specs.laws.Merge.{entries_at}
use Rattle.arrange.proofs.write.is_fresh.Goals as goal

pub less-requires : goal.less-requires
less-requires c = let h : c.args.i - 1 < length c.args.entries.now = omega arith in
    (entries_at c.requires.1 _ _ h refl, entries_at c.requires.1 _ _ c.requires.0 refl)
