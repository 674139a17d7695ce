-- Rows and bits of a pool: a role's row is the first credential with that head, an entity's bit the first with that body. Assumes nothing.
use Rattle.std.specs.Prelude.{ℕ, zero, suc, ◌+◌, ◌*◌, ◌<◌, ◌≡◌, Bool, true, false, ◌&&◌, cond, List, [], ◌∷◌, ◌++◌, eqb}
use Rattle.expression.specs.declared.Role.{Role}
use Rattle.expression.specs.declared.Parts.{Parts}
use Rattle.expression.specs.declared.Credential.{Credential}
use Rattle.expression.specs.declared.Expression.{Expression}
use Rattle.expression.specs.declared.Expression.TheVariants as E
use Rattle.expression.specs.Same.{same, same_role}
use Rattle.rt0.specs.From.{role_of}
use Rattle.rt0.specs.declared.Pool.{Pool}
use Rattle.rt0.specs.laws.Pool.{head_at, body_at, credential_at}
use Rattle.closure.specs.declared.Rules.{Rules}
use Rattle.closure.specs.laws.Rules.{el, bits, Fits}
use Rattle.word.specs.laws.Search.{any_to}

-- the first number below n that passes the test, or 128
abbrev pub first_to : ℕ → (ℕ → Bool) → ℕ
first_to zero f = 128
first_to (suc n) f = cond (any_to n f) (first_to n f) (cond (f n) n 128)

-- credential j has the role p as its head
abbrev pub is_head_in : List ℕ → Role → ℕ → Bool
is_head_in H p j = same_role (role_of (el H (j * 2)) (el H (j * 2 + 1))) p

abbrev pub is_head : Pool → Role → ℕ → Bool
is_head P p j = is_head_in P.heads p j

-- the row of a role
unfoldable pub row_in : ℕ → List ℕ → Role → ℕ
row_in n H p = first_to n (is_head_in H p)

abbrev pub row_of : Pool → Role → ℕ
row_of P p = row_in P.count P.heads p

-- credential s has the entity b as its body
abbrev pub is_body_in : List ℕ → List ℕ → ℕ → ℕ → Bool
is_body_in K N b s = eqb (el K (s * 2)) 1 && eqb (el N (s * 8)) b

abbrev pub is_body : Pool → ℕ → ℕ → Bool
is_body P b s = is_body_in P.kinds P.numbers b s

-- the bit of an entity
unfoldable pub bit_in : ℕ → List ℕ → List ℕ → ℕ → ℕ
bit_in n K N b = first_to n (is_body_in K N b)

abbrev pub bit_of : Pool → ℕ → ℕ
bit_of P b = bit_in P.count P.kinds P.numbers b

-- the row of a role where e is asked about: e itself has row 129 where no credential has it as its head
unfoldable pub row_for : Pool → Expression → Role → ℕ
row_for P e p = cond (eqb (row_of P p) 128) (cond (same (E.Role p) e) 129 128) (row_of P p)

-- the credentials below k that are on
abbrev pub chosen_to : Pool → List ℕ → ℕ → List Credential
chosen_to P on zero = []
chosen_to P on (suc k) = chosen_to P on k ++ cond (eqb (el on k) 1) (credential_at P k ∷ []) []

-- the credentials of a pool that are on
unfoldable pub chosen : Pool → List ℕ → List Credential
chosen P on = chosen_to P on P.count

-- The rule of an expression

-- the third role of an intersection, or the first where there is none
abbrev pub third : Parts → Role
third p = cond (eqb p.count 2) p.first p.third

-- the fourth role, or the first
abbrev pub fourth : Parts → Role
fourth p = cond (eqb p.count 2) p.first (cond (eqb p.count 3) p.first p.fourth)

-- the four parts of rule i
pub record Quad (X : Rules) (i a b c d : ℕ) : Type 0 where
  pub p0 : el X.part (i * 4) ≡ a
  pub p1 : el X.part (i * 4 + 1) ≡ b
  pub p2 : el X.part (i * 4 + 2) ≡ c
  pub p3 : el X.part (i * 4 + 3) ≡ d

-- rule i names no row
pub record Unnamed (X : Rules) (i : ℕ) : Type 0 where
  pub none : (j : ℕ) → bits X.named i j ≡ false

-- rule i names the heads with name m whose entity has a bit
pub record Names (P : Pool) (X : Rules) (i m : ℕ) : Type 0 where
  pub says : (j : ℕ) → bits X.named i j ≡ true → (j < P.count) × ((head_at P j).name ≡ m) × (el X.src j ≡ bit_of P (head_at P j).entity)
      × (bit_of P (head_at P j).entity < P.count)
  pub all : (j : ℕ) → j < P.count → (head_at P j).name ≡ m → row_of P (head_at P j) ≡ j → bit_of P (head_at P j).entity < P.count → bits X.named i j ≡ true

-- rule i is that of the expression
pub data Row (P : Pool) (e : Expression) (X : Rules) (i : ℕ) : Expression → Type 0 where
  entity : {b : ℕ} → Quad X i 128 128 128 128 → Unnamed X i → Row P e X i (E.Entity b)
  goal : {m : ℕ} → Quad X i 128 128 128 128 → Unnamed X i → Row P e X i (E.Goal m)
  role : {p : Role} → Quad X i (row_for P e p) (row_for P e p) (row_for P e p) (row_for P e p) → Unnamed X i → Row P e X i (E.Role p)
  linked : {a : Role} {m : ℕ} → Quad X i 128 128 128 128 → el X.first i ≡ row_of P a → Names P X i m → Row P e X i (E.Linked a m)
  intersection : {p : Parts} → Quad X i (row_for P e p.first) (row_for P e p.second) (row_for P e (third p)) (row_for P e (fourth p)) → Unnamed X i
      → Row P e X i (E.Intersection p)

-- the rules of the pool, e being asked about
pub record Compiled (P : Pool) (e : Expression) (X : Rules) : Type 0 where
  pub count : X.count ≡ P.count
  pub fits : Fits X
  pub head : (i : ℕ) → i < P.count → el X.head i ≡ row_of P (head_at P i)
  pub row : (i : ℕ) → i < P.count → Row P e X i (body_at P i)
