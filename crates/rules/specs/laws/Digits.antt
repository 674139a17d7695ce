-- Tables that find the credentials with a given number, by the number's digits. Assumes nothing.
use Rattle.std.specs.Prelude.{ℕ, ◌+◌, ◌*◌, ◌/◌, ◌%◌, ◌<◌, ◌≡◌, true, false, List, length}
use Rattle.std.specs.Int.Bits.{bit_and}
use Rattle.word.specs.laws.Bit.{bit_at}
use Rattle.closure.specs.laws.Rules.{el, bits, Within}

-- credential j is in the rows of the digits of x
pub record Held (T : List ℕ) (x j : ℕ) : Type 0 where
  pub low : bits T (x % 64) j ≡ true
  pub mid : bits T (64 + x / 64 % 32) j ≡ true
  pub high : bits T (96 + x / 2048 % 32) j ≡ true

-- word h of what the rows of the digits of x share
unfoldable pub shared : List ℕ → ℕ → ℕ → ℕ
shared T x h = bit_and (bit_and (el T (x % 64 * 2 + h)) (el T ((64 + x / 64 % 32) * 2 + h))) (el T ((96 + x / 2048 % 32) * 2 + h))

-- the table T, where credential j has taken the number x
pub record Noted (x j : ℕ) (T T' : List ℕ) : Type 0 where
  pub sized : length T' ≡ 260
  pub kept : Within (bits T) (bits T')
  pub here : Held T' x j

-- the words lo and hi have no number below r
pub record NoneBelow (lo hi r : ℕ) : Type 0 where
  pub low : (i : ℕ) → i < r → i / 64 ≡ 0 → bit_at lo (i % 64) ≡ false
  pub high : (i : ℕ) → i < r → i / 64 ≡ 1 → bit_at hi (i % 64) ≡ false

-- the tables have the heads of the credentials below k: their entities in E, their names in N
pub record HeadsIn (H : List ℕ) (k : ℕ) (E N : List ℕ) : Type 0 where
  pub sized : length E ≡ 260
  pub sized' : length N ≡ 260
  pub entity : (j : ℕ) → j < k → Held E (el H (j * 2)) j
  pub name : (j : ℕ) → j < k → Held N (el H (j * 2 + 1)) j

-- the table has the entities that are bodies of the credentials below k
pub record BodiesIn (K N : List ℕ) (k : ℕ) (T : List ℕ) : Type 0 where
  pub sized : length T ≡ 260
  pub body : (j : ℕ) → j < k → el K (j * 2) ≡ 1 → Held T (el N (j * 8)) j

-- each credential is in each row
pub record Open (T : List ℕ) : Type 0 where
  pub sized : length T ≡ 260
  pub all : (r j : ℕ) → r < 128 → j < 128 → bits T r j ≡ true
