-- A question asked several times. Assumes nothing.
use Rattle.std.specs.Prelude.{ℕ, ◌*◌, ◌%◌, Bool, cond, eqb}

-- how many of k equal answers are yes
unfoldable pub count_of : Bool → ℕ → ℕ
count_of b k = cond b k 0

-- an accepted question answers 0 or 256, and its answers are added up; a refusal is answered once
unfoldable pub repeated_of : ℕ → ℕ → ℕ
repeated_of times answer = cond (eqb (answer % 256) 0) (times * answer) answer
