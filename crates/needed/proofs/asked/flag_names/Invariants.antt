use Rattle.needed.specs.laws.Flags.{is_named, Marked}
use Rattle.needed.proofs.asked.flag_names.Given as goal

abbrev pub invariant-loop-i : goal.invariant-loop-i
invariant-loop-i l = Marked l.pool.heads (is_named l.m) l.i l.initial.flags l.flags
