-- The order by bytes (document 01: records "ascend strictly by bytes"), as a comparison of numbers.
use Rattle.std.specs.Prelude.{ℕ, List, [], ◌∷◌, Bool, true, false, ◌&&◌, ◌||◌, ltb, eqb}
use Rattle.expression.specs.declared.Raw.{Raw}
use Rattle.expression.specs.declared.Expression.{Expression}
use Rattle.expression.specs.declared.Credential.{Credential}
use Rattle.expression.specs.Form.{raw_of}

-- the first numbers decide, and where they are equal the rest does
abbrev pub leads : ℕ → ℕ → Bool → Bool
leads m n rest = ltb m n || (eqb m n && rest)

-- strict lexicographic order
abbrev pub lex_less : List ℕ → List ℕ → Bool
lex_less s [] = false
lex_less [] (n ∷ t) = true
lex_less (m ∷ s) (n ∷ t) = leads m n (lex_less s t)

abbrev pub raw_numbers : Raw → List ℕ
raw_numbers r = r.kind ∷ r.count ∷ r.n0 ∷ r.n1 ∷ r.n2 ∷ r.n3 ∷ r.n4 ∷ r.n5 ∷ r.n6 ∷ r.n7 ∷ []

abbrev pub credential_numbers : Credential → List ℕ
credential_numbers c = c.head.entity ∷ c.head.name ∷ raw_numbers (raw_of c.body)

-- kind, part count and the eight numbers decide, in this order
unfoldable pub before_of : Expression → Expression → Bool
before_of x y = lex_less (raw_numbers (raw_of x)) (raw_numbers (raw_of y))

-- issuer, name, body decide, in this order
unfoldable pub before_credential : Credential → Credential → Bool
before_credential c d = lex_less (credential_numbers c) (credential_numbers d)
