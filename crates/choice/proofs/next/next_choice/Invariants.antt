use Prim.Native.Nat.{◌≤◌}
use Rattle.tables.specs.laws.Tables.{tables_of}
use Rattle.negotiation.specs.laws.State.{state_of}
use Rattle.moves.specs.Rules.{end_in}
use Rattle.candidates.specs.laws.Reach.{Recalls}
use Rattle.choice.specs.laws.Next.{NothingBefore}
use Rattle.choice.proofs.next.next_choice.Given as goal

abbrev pub invariant-loop-i : goal.invariant-loop-i
invariant-loop-i l = NothingBefore (end_in (tables_of l.own.house) (state_of l.n)) l.i × (l.i ≤ l.n.nodes.count) × Recalls l.own l.reach
