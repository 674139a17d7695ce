-- Tests over lists. Assumes nothing.
use Rattle.std.specs.Prelude.{Bool, cond, true, false, ◌&&◌, ◌||◌, List, [], ◌∷◌}

module _ {A B : Type 0} where
  -- the value of the first element that passes the test, or the other value where none does
  abbrev pub first_or : (A → Bool) → (A → B) → B → List A → B
  first_or t v d [] = d
  first_or t v d (x ∷ xs) = cond (t x) (v x) (first_or t v d xs)

module _ {A : Type 0} where
  abbrev pub any : (A → Bool) → List A → Bool
  any f [] = false
  any f (x ∷ xs) = f x || any f xs

  abbrev pub all : (A → Bool) → List A → Bool
  all f [] = true
  all f (x ∷ xs) = f x && all f xs
