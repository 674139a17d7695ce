-- Role names and their classes (document 01, "Classes": "1 issuer-def, 2 issuer-all, 3 subject-all"; request 2). Assumes nothing.
use Rattle.std.specs.Prelude.{ℕ, List, eqb}
use Rattle.class.specs.declared.Name.{Name}
use Rattle.rt0.specs.Lists.{first_or}

-- the class of a name; request 2: "A name without a class now counts as subject-all, in tables and messages alike."
unfoldable pub class_of : List Name → ℕ → ℕ
class_of ns m = first_or (λ n. eqb n.name m) (λ n. n.class) 3 ns
