-- What the steps of a question promise. Assumes nothing.
use Rattle.std.specs.Prelude.{ℕ, ◌<◌, ◌≡◌, ◌⊎◌, Bool, true, ◌&&◌, List, eqb, length}
use Rattle.expression.specs.declared.Role.{Role}
use Rattle.expression.specs.declared.Expression.{Expression}
use Rattle.expression.specs.declared.Expression.TheVariants as E
use Rattle.rt0.specs.declared.Pool.{Pool}
use Rattle.rt0.specs.From.{From}
use Rattle.rt0.specs.laws.Pool.{head_at, body_at}
use Rattle.closure.specs.laws.Rules.{el, bits, Within}
use Rattle.rules.specs.laws.Table.{row_of, bit_of, row_for, chosen}
use Rattle.relation.specs.laws.Relation.{at_once}

-- the rows K with what credential i says at once
pub record Seeded (P : Pool) (i : ℕ) (K K' : List ℕ) : Type 0 where
  pub sized : length K' ≡ 260
  pub kept : Within (bits K) (bits K')
  pub says : (r s : ℕ) → bits K' r s ≡ true → (bits K r s ≡ true) ⊎ ((b : ℕ) × (body_at P i ≡ E.Entity b) × (r ≡ row_of P (head_at P i)) × (s ≡ bit_of P b))
  pub all : (b : ℕ) → body_at P i ≡ E.Entity b → bits K' (row_of P (head_at P i)) (bit_of P b) ≡ true

-- the rows with what the credentials below k that are on say at once
pub record StartTo (P : Pool) (on : List ℕ) (k : ℕ) (K : List ℕ) : Type 0 where
  pub sized : length K ≡ 260
  pub says : (r s : ℕ) → bits K r s ≡ true → (r < P.count) × From (chosen P on) (E.Role (head_at P r)) (body_at P s)
  pub seeds : (i b : ℕ) → i < k → el on i ≡ 1 → body_at P i ≡ E.Entity b → bits K (row_of P (head_at P i)) (bit_of P b) ≡ true

-- r is the row of e itself
pub record OwnRow (P : Pool) (e : Expression) (r : ℕ) : Type 0 where
  pub small : r < 130
  pub says : (r ≡ 129) ⊎ ((r < P.count) × (E.Role (head_at P r) ≡ e))
  pub own : (p : Role) → E.Role p ≡ e → r ≡ row_for P e p

-- the bit of the entity of e where e is a role, or 128, entity b having bit β b
abbrev pub own_bit : (ℕ → ℕ) → Expression → ℕ
own_bit β (E.Entity b) = 128
own_bit β (E.Role q) = β q.entity
own_bit β (E.Linked a m) = 128
own_bit β (E.Intersection p) = 128
own_bit β (E.Goal m) = 128

-- credential i is on, and its body is from e at once
unfoldable pub starts_at : Pool → List ℕ → List ℕ → Expression → ℕ → Bool
starts_at P on K e i = eqb (el on i) 1 && at_once P K e (body_at P i)

-- head j is B.m, from what bit z of the rows L stands for, and B is in row r of the rows K
unfoldable pub leads_at : Pool → List ℕ → List ℕ → ℕ → ℕ → ℕ → ℕ → Bool
leads_at P K L z r m j = eqb (head_at P j).name m && (bits L j z && bits K r (bit_of P (head_at P j).entity))

-- the rows that a question about e starts from, up to credential k
pub record AskedTo (P : Pool) (on K : List ℕ) (e : Expression) (k : ℕ) (K₀ : List ℕ) : Type 0 where
  pub sized : length K₀ ≡ 260
  pub says : (r s : ℕ) → bits K₀ r s ≡ true → (r ≡ 129) ⊎ ((r < P.count) × From (chosen P on) (E.Role (head_at P r)) e)
  pub own : (p : Role) → E.Role p ≡ e → bits K₀ (row_for P e p) 0 ≡ true
  pub seeds : (i : ℕ) → i < k → el on i ≡ 1 → at_once P K e (body_at P i) ≡ true → bits K₀ (row_of P (head_at P i)) 0 ≡ true
