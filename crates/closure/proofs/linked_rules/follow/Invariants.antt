use Prim.Native.Nat.{◌+◌}
use Rattle.closure.specs.laws.Rules.{Grown}
use Rattle.closure.proofs.linked_rules.follow.Given as goal

abbrev pub invariant-loop-j : goal.invariant-loop-j
invariant-loop-j l = Grown l.rules l.on l.own l.mem l.initial.rows l.rows

abbrev pub decreases-loop-j : goal.decreases-loop-j
decreases-loop-j l = l.todo.lo + l.todo.hi
