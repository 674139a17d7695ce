use mathlib.Core.List.{List}
use Prim.Native.Nat.{ℕ}
use Rattle.expression.specs.declared.Role.{Role}
use Rattle.expression.specs.Same.{same_role}
use Rattle.expression.specs.laws.Key.{KeyOf}
use Rattle.needed.specs.laws.Flags.{Marked}
use Rattle.needed.proofs.asked.flag_from.Given as goal

abbrev pub invariant-loop-k : goal.invariant-loop-k
invariant-loop-k l = (p : Role) → KeyOf p l.key → (r : List ℕ) → Marked l.pool.heads (same_role p) l.i r l.initial.flags
    → Marked l.pool.heads (same_role p) l.k r l.flags
