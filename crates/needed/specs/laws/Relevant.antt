-- The credentials that can matter for "f from e": f asks for heads, and so do the bodies of the credentials with the heads asked for.
-- Assumes nothing.
use Rattle.std.specs.Prelude.{ℕ, ◌<◌, ◌≡◌, Bool, true, false, ◌||◌, eqb}
use mathlib.Core.List.{List, [], ◌∷◌, Memᴰ}
use Rattle.expression.specs.declared.Role.{Role}
use Rattle.expression.specs.declared.Credential.{Credential}
use Rattle.expression.specs.declared.Expression.{Expression}
use Rattle.expression.specs.declared.Expression.TheVariants as E
use Rattle.expression.specs.Same.{same_role}
use Rattle.rt0.specs.declared.Pool.{Pool}
use Rattle.rt0.specs.From.{roles_of}
use Rattle.rt0.specs.Lists.{any}
use Rattle.rt0.specs.laws.Pool.{head_at, body_at}
use Rattle.closure.specs.laws.Rules.{el}

-- x asks for credentials with the head h
unfoldable pub asks : Expression → Role → Bool
asks (E.Entity b) h = false
asks (E.Role p) h = same_role p h
asks (E.Linked a m) h = same_role a h || eqb h.name m
asks (E.Intersection p) h = any (λ a. same_role a h) (roles_of p)
asks (E.Goal m) h = false

-- the heads R are closed for f over C: f asks for no others, and neither do the bodies of the credentials of C with heads in R
pub record Sufficient (f : Expression) (C : List Credential) (R : Role → Type 0) : Type 0 where
  pub asked : (h : Role) → asks f h ≡ true → R h
  pub followed : (c : Credential) → Memᴰ c C → R c.head → (h : Role) → asks c.body h ≡ true → R h

-- the first list is the second with some credentials left out, none of them with a head in R
pub data Reduced (R : Role → Type 0) : List Credential → List Credential → Type 0 where
  nothing : Reduced R [] []
  dropped : {c : Credential} {xs ys : List Credential} → (R c.head → ⊥) → Reduced R xs ys → Reduced R xs (c ∷ ys)
  taken : {c : Credential} {xs ys : List Credential} → Reduced R xs ys → Reduced R (c ∷ xs) (c ∷ ys)

-- each credential of the pool with the head h is in the column
pub record Flagged (P : Pool) (r : List ℕ) (h : Role) : Type 0 where
  pub each : (i : ℕ) → i < P.count → head_at P i ≡ h → el r i ≡ 1

-- the column has the credentials that f asks for, and those that the body of one in it asks for
pub record ClosedFor (P : Pool) (f : Expression) (r : List ℕ) : Type 0 where
  pub asked : (i : ℕ) → i < P.count → asks f (head_at P i) ≡ true → el r i ≡ 1
  pub followed : (j i : ℕ) → j < P.count → i < P.count → el r j ≡ 1 → asks (body_at P j) (head_at P i) ≡ true → el r i ≡ 1
