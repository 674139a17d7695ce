-- The columns of a pool's rules. Assumes nothing.
use Rattle.std.specs.Prelude.{ℕ, ◌+◌, ◌*◌, ◌<◌, ◌≡◌, ◌⊎◌, Bool, true, false, ◌&&◌, cond, List, eqb, length, set}
use Rattle.expression.specs.declared.Role.{Role}
use Rattle.expression.specs.declared.Expression.{Expression}
use Rattle.expression.specs.declared.Expression.TheVariants as E
use Rattle.rt0.specs.declared.Pool.{Pool}
use Rattle.rt0.specs.laws.Pool.{head_at, head_in, body_at}
use Rattle.closure.specs.laws.Rules.{el, bits, Under, Within}
use Rattle.rules.specs.declared.Four.{Four}
use Rattle.rules.specs.laws.Table.{row_of, row_in, bit_of, third, fourth}

-- the four rows of an expression's rule, role p having row ρ p
abbrev pub four_rows : (Role → ℕ) → Expression → Four
four_rows ρ (E.Entity b) = record { a = 128; b = 128; c = 128; d = 128 }
four_rows ρ (E.Role p) = record { a = ρ p; b = ρ p; c = ρ p; d = ρ p }
four_rows ρ (E.Linked p m) = record { a = 128; b = 128; c = 128; d = 128 }
four_rows ρ (E.Intersection p) = record { a = ρ p.first; b = ρ p.second; c = ρ (third p); d = ρ (fourth p) }
four_rows ρ (E.Goal m) = record { a = 128; b = 128; c = 128; d = 128 }

-- the membership row of an expression's rule, role p having row ρ p
abbrev pub first_row : (Role → ℕ) → Expression → ℕ
first_row ρ (E.Entity b) = 128
first_row ρ (E.Role p) = 128
first_row ρ (E.Linked a m) = ρ a
first_row ρ (E.Intersection p) = 128
first_row ρ (E.Goal m) = 128

-- the expression is a link
abbrev pub is_linked : Expression → Bool
is_linked (E.Entity b) = false
is_linked (E.Role p) = false
is_linked (E.Linked a m) = true
is_linked (E.Intersection p) = false
is_linked (E.Goal m) = false

-- a column is filled with f up to k, and its numbers are below the bound
pub record Column (f : ℕ → ℕ) (len bound k : ℕ) (l : List ℕ) : Type 0 where
  pub sized : length l ≡ len
  pub upto : (j : ℕ) → j < k → el l j ≡ f j
  pub under : Under bound l

-- the row of head i
abbrev pub head_row_in : ℕ → List ℕ → ℕ → ℕ
head_row_in n H i = row_in n H (head_in H i)

abbrev pub head_row : Pool → ℕ → ℕ
head_row P i = head_row_in P.count P.heads i

-- the membership row of the rule of body i
abbrev pub body_first : Pool → ℕ → ℕ
body_first P i = first_row (row_of P) (body_at P i)

-- the four rows at rule i of a column
abbrev pub four_at : List ℕ → ℕ → Four
four_at l i = record { a = el l (i * 4); b = el l (i * 4 + 1); c = el l (i * 4 + 2); d = el l (i * 4 + 3) }

-- four rows below the bound
pub record FourUnder (bound : ℕ) (r : Four) : Type 0 where
  pub a : r.a < bound
  pub b : r.b < bound
  pub c : r.c < bound
  pub d : r.d < bound

-- the rows of the rules up to k
pub record PartsTo (ρ : Role → ℕ) (P : Pool) (k : ℕ) (l : List ℕ) : Type 0 where
  pub sized : length l ≡ 512
  pub under : Under 130 l
  pub four : (i : ℕ) → i < k → four_at l i ≡ four_rows ρ (body_at P i)

-- the heads that links can go by, and the bits of their entities; none are sought where lit is false
pub record Able (P : Pool) (lit : Bool) (k : ℕ) (src able : List ℕ) : Type 0 where
  pub sized : length src ≡ 128
  pub sized' : length able ≡ 128
  pub under : Under 128 src
  pub says : (j : ℕ) → el able j ≡ 1 → (j < k) × (el src j ≡ bit_of P (head_at P j).entity) × (bit_of P (head_at P j).entity < P.count)
  pub all : lit ≡ true → (j : ℕ) → j < k → row_of P (head_at P j) ≡ j → bit_of P (head_at P j).entity < P.count → el able j ≡ 1

-- row i of the table names the heads below k that links can go by and whose name is m
pub record NamedRow (P : Pool) (able : List ℕ) (i m k : ℕ) (N N' : List ℕ) : Type 0 where
  pub sized : length N' ≡ 260
  pub kept : Within (bits N) (bits N')
  pub says : (q t : ℕ) → bits N' q t ≡ true → (bits N q t ≡ true) ⊎ ((q ≡ i) × (t < k) × (el able t ≡ 1) × ((head_at P t).name ≡ m))
  pub all : (t : ℕ) → t < k → el able t ≡ 1 → (head_at P t).name ≡ m → bits N' i t ≡ true

-- row i of the table takes in what the link of x names
pub record NamedLink (P : Pool) (able : List ℕ) (i k : ℕ) (x : Expression) (N N' : List ℕ) : Type 0 where
  pub sized : length N' ≡ 260
  pub kept : Within (bits N) (bits N')
  pub says : (q t : ℕ) → bits N' q t ≡ true → (bits N q t ≡ true)
      ⊎ ((a : Role) × (m : ℕ) × (x ≡ E.Linked a m) × (q ≡ i) × (t < k) × (el able t ≡ 1) × ((head_at P t).name ≡ m))
  pub all : (a : Role) (m t : ℕ) → x ≡ E.Linked a m → t < k → el able t ≡ 1 → (head_at P t).name ≡ m → bits N' i t ≡ true

-- the rows of the linked bodies up to k
pub record NamesTo (P : Pool) (able : List ℕ) (k : ℕ) (N : List ℕ) : Type 0 where
  pub sized : length N ≡ 260
  pub says : (q t : ℕ) → bits N q t ≡ true → (a : Role) × (m : ℕ) × (q < k) × (body_at P q ≡ E.Linked a m) × (t < P.count) × (el able t ≡ 1)
      × ((head_at P t).name ≡ m)
  pub all : (q : ℕ) (a : Role) (m t : ℕ) → q < k → body_at P q ≡ E.Linked a m → t < P.count → el able t ≡ 1 → (head_at P t).name ≡ m → bits N q t ≡ true

-- links can go by head t, and its name is m
abbrev pub is_named_in : List ℕ → List ℕ → ℕ → ℕ → Bool
is_named_in H able m t = eqb (el able t) 1 && eqb (el H (t * 2 + 1)) m

abbrev pub is_named : Pool → List ℕ → ℕ → ℕ → Bool
is_named P able m t = is_named_in P.heads able m t

-- credential i has a linked body
abbrev pub has_link_in : List ℕ → ℕ → Bool
has_link_in K i = eqb (el K (i * 2)) 3

abbrev pub has_link : Pool → ℕ → Bool
has_link P i = has_link_in P.kinds i

-- the bit of the entity of head j, where j is the row of that head
abbrev pub link_source : Pool → ℕ → ℕ
link_source P j = cond (eqb (row_of P (head_at P j)) j) (bit_of P (head_at P j).entity) 128

-- where b is true, bodies k and i are links with one name, if i is a link, and k comes before i
pub record SameLink (K N : List ℕ) (k i : ℕ) (b : Bool) : Type 0 where
  pub before : b ≡ true → k < i
  pub link : b ≡ true → has_link_in K k ≡ true
  pub name : b ≡ true → el N (k * 8 + 2) ≡ el N (i * 8 + 2)

-- the table with row k as its row i
unfoldable pub copied : List ℕ → ℕ → ℕ → List ℕ
copied N k i = set (set N (i * 2) (el N (k * 2))) (i * 2 + 1) (el N (k * 2 + 1))
