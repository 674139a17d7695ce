use Prim.Native.Nat.{◌-◌}
use lib.ListN.{length}
use Rattle.class.specs.laws.Names.{names_of}
use Rattle.negotiation.specs.laws.State.{state_of}
use Rattle.take.specs.laws.Commands.{Reading}
use Rattle.take.specs.laws.Progress.{Keeps}
use Rattle.take.proofs.commands.carry_out.Given as goal

abbrev pub invariant-loop-at : goal.invariant-loop-at
invariant-loop-at l = Reading (names_of l.names) l.sender l.message (state_of l.initial.n) l.n l.at l.kept.moved × Keeps l.known l.kept l.n

abbrev pub decreases-loop-at : goal.decreases-loop-at
decreases-loop-at l = length l.message - l.at
