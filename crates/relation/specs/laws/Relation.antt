-- The relation of roles and entities, and what is from an expression at once. Assumes nothing.
use Rattle.std.specs.Prelude.{ℕ, zero, suc, ◌+◌, ◌<◌, ◌≡◌, ◌⊎◌, Bool, true, false, ◌&&◌, ◌||◌, List, eqb, length, set}
use Rattle.expression.specs.declared.Role.{Role}
use Rattle.expression.specs.declared.Expression.{Expression}
use Rattle.expression.specs.declared.Expression.TheVariants as E
use Rattle.expression.specs.Same.{same}
use Rattle.rt0.specs.declared.Pool.{Pool}
use Rattle.rt0.specs.From.{From}
use Rattle.rt0.specs.laws.Pool.{head_at, body_at}
use Rattle.closure.specs.laws.Rules.{el, bits}
use Rattle.rules.specs.laws.Table.{row_of, bit_of, row_for, chosen}

-- the rows K are the relation of roles and entities over the credentials that are on
pub record Relation (P : Pool) (on K : List ℕ) : Type 0 where
  pub sized : length K ≡ 260
  pub says : (r s : ℕ) → bits K r s ≡ true → (r < P.count) × From (chosen P on) (E.Role (head_at P r)) (body_at P s)
  pub all : (a : Role) (b : ℕ) → bit_of P b < P.count → From (chosen P on) (E.Role a) (E.Entity b) → bits K (row_of P a) (bit_of P b) ≡ true

-- rows from which the relation can be closed: they say nothing wrong, and each credential with an entity has its bit
pub record Start (P : Pool) (on K : List ℕ) : Type 0 where
  pub sized : length K ≡ 260
  pub says : (r s : ℕ) → bits K r s ≡ true → (r < P.count) × From (chosen P on) (E.Role (head_at P r)) (body_at P s)
  pub seeds : (i b : ℕ) → i < P.count → el on i ≡ 1 → body_at P i ≡ E.Entity b → bits K (row_of P (head_at P i)) (bit_of P b) ≡ true

-- the column with d credentials from number low on switched on
unfoldable pub switched : ℕ → ℕ → List ℕ → List ℕ
switched low zero on = on
switched low (suc d) on = set (switched low d on) (low + d) 1

-- What is from e at once: e itself, and a.m where e is B.m and B is in a by the rows K

-- the expression is B.m, with B in a by the rows K
abbrev pub own_role : Pool → List ℕ → Role → ℕ → Expression → Bool
own_role P K a m (E.Entity b) = false
own_role P K a m (E.Role q) = eqb q.name m && bits K (row_of P a) (bit_of P q.entity)
own_role P K a m (E.Linked p n) = false
own_role P K a m (E.Intersection p) = false
own_role P K a m (E.Goal n) = false

-- x is a link a.m, and e is such a B.m
abbrev pub own_link : Pool → List ℕ → Expression → Expression → Bool
own_link P K e (E.Entity b) = false
own_link P K e (E.Role p) = false
own_link P K e (E.Linked a m) = own_role P K a m e
own_link P K e (E.Intersection p) = false
own_link P K e (E.Goal n) = false

-- x is from e at once
unfoldable pub at_once : Pool → List ℕ → Expression → Expression → Bool
at_once P K e x = same x e || own_link P K e x

-- the rows that a question starts from: bit 0 stands for e
pub record Asked (P : Pool) (on K : List ℕ) (e : Expression) (K₀ : List ℕ) : Type 0 where
  pub sized : length K₀ ≡ 260
  pub says : (r s : ℕ) → bits K₀ r s ≡ true → (r ≡ 129) ⊎ ((r < P.count) × From (chosen P on) (E.Role (head_at P r)) e)
  pub own : (p : Role) → E.Role p ≡ e → bits K₀ (row_for P e p) 0 ≡ true
  pub seeds : (i : ℕ) → i < P.count → el on i ≡ 1 → at_once P K e (body_at P i) ≡ true → bits K₀ (row_of P (head_at P i)) 0 ≡ true

-- the rows L answer what is from e: bit z of a role's row says whether the role is. Row 129 is that of e itself, where it is no head
pub record Answers (P : Pool) (on : List ℕ) (e : Expression) (z : ℕ) (L : List ℕ) : Type 0 where
  pub sized : length L ≡ 260
  pub says : (r : ℕ) → bits L r z ≡ true → (r ≡ 129) ⊎ ((r < P.count) × From (chosen P on) (E.Role (head_at P r)) e)
  pub all : (p : Role) → From (chosen P on) (E.Role p) e → bits L (row_for P e p) z ≡ true
