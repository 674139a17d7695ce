-- Elements of a list, each judged by those before it. Assumes nothing.
use Rattle.std.specs.Prelude.{Bool, true, ◌&&◌, List, [], ◌∷◌, ◌++◌}

-- each element passes the test behind those of the first list and the earlier ones of the second
unfoldable pub in_turn : {A : Type 0} → (List A → A → Bool) → List A → List A → Bool
in_turn t before [] = true
in_turn t before (x ∷ xs) = t before x && in_turn t (before ++ (x ∷ [])) xs
