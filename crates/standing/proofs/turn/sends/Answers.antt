use Prim.Native.Nat.{ℕ, ◌%◌}
use mathlib.Core.Path.{ap}
use lib.Dec.{eqb}
use Rattle.standing.specs.Turn.{sends}
use Rattle.standing.proofs.turn.sends.Goals as goal

pub returns : goal.returns
unfolding sends
returns c = ap (λ (n : ℕ). eqb (n % 2) c.args.side) c.count.ensures
