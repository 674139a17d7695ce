-- Which bytes are a question of right form within the sizes, and what its answer is. Assumes nothing.
use Rattle.std.specs.Prelude.{ℕ, ◌<◌, ◌≤◌, ◌≡◌, ◌↔◌, Bool, true, List, [], ◌∷◌, ◌++◌, length}
use Rattle.expression.specs.declared.Credential.{Credential}
use Rattle.expression.specs.Credential.{well_formed_credential, credential_bytes, is_body}
use Rattle.numbers.specs.Sizes.{MOST-CREDENTIALS, MOST-CREDENTIALS-BYTES}
use Rattle.numbers.specs.Bytes.{EXPRESSION-BYTES}
use Rattle.expression.specs.declared.Expression.{Expression}
use Rattle.rt0.specs.From.{From}
use Rattle.expression.specs.Bytes.{raw_bytes}
use Rattle.expression.specs.Form.{raw_of, well_formed}

-- a command for each credential, then other bytes
abbrev pub commands_then : List Credential → List ℕ → List ℕ
commands_then [] l = l
commands_then (c ∷ C) l = 1 ∷ (credential_bytes c ++ commands_then C l)

-- a command for each credential, then the end
abbrev pub commands : List Credential → List ℕ
commands C = commands_then C (6 ∷ [])

-- all credentials are well formed
abbrev pub Formed : List Credential → Type 0
Formed [] = Unit {0}
Formed (c ∷ C) = (well_formed_credential c ≡ true) × Formed C

abbrev pub expression_bytes : Expression → List ℕ
expression_bytes x = raw_bytes (raw_of x)

-- an expression of right form and of kinds 1 to 4
pub record Askable (x : Expression) : Type 0 where
  pub formed : well_formed x ≡ true
  pub kind : is_body x ≡ true

-- what the lent bytes hold in an accepted call
pub record Written (c f e : List ℕ) (C : List Credential) (x y : Expression) : Type 0 where
  pub credentials : c ≡ commands C
  pub first : f ≡ expression_bytes x
  pub second : e ≡ expression_bytes y
  pub most : length C ≤ MOST-CREDENTIALS
  pub formed : Formed C
  pub left : Askable x
  pub right : Askable y

-- the three lengths are within the sizes
pub record Sized (c f e : ℕ) : Type 0 where
  pub some : 0 < c
  pub most : c ≤ MOST-CREDENTIALS-BYTES
  pub first : f ≡ EXPRESSION-BYTES
  pub second : e ≡ EXPRESSION-BYTES

-- the lent bytes ask a question, and b is its answer: yes exactly where "f from e" holds over the credentials listed
pub record Answered (c f e : List ℕ) (b : Bool) : Type 0 where
  pub credentials : List Credential
  pub left : Expression
  pub right : Expression
  pub written : Written c f e credentials left right
  pub yes : (b ≡ true) ↔ From credentials left right
