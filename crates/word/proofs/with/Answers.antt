use mathlib.Core.Path.{refl}
use Rattle.word.proofs.with.Goals as goal

pub returns-then-t : goal.returns-then-t
returns-then-t c = rw c.if-t.true refl
