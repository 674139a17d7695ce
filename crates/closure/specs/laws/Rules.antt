-- Rules that make rows of bits grow, and the least rows that are closed under them. Assumes nothing.
use Rattle.std.specs.Prelude.{ℕ, ◌+◌, ◌*◌, ◌/◌, ◌%◌, ◌≤◌, ◌<◌, ◌≡◌, ◌⊎◌, Bool, true, ◌&&◌, cond, List, ltb, get_or, length}
use Rattle.word.specs.laws.Bit.{bit_at}
use Rattle.closure.specs.declared.Rules.{Rules}

abbrev pub rules_of : ℕ → ℕ → List ℕ → List ℕ → List ℕ → List ℕ → List ℕ → Rules
rules_of n w H P F N S = record { count = n; words = w; head = H; part = P; first = F; named = N; src = S }

abbrev pub el : List ℕ → ℕ → ℕ
el l i = get_or l i 0

-- bit s of row r, a row being two words
unfoldable pub bits : List ℕ → ℕ → ℕ → Bool
bits K r s = ltb s 128 && bit_at (el K (r * 2 + s / 64)) (s % 64)

-- each number of the list is below k
pub record Under (k : ℕ) (l : List ℕ) : Type 0 where
  pub under : (i : ℕ) → el l i < k

-- the rules name rows below 130, and their sources are bits
pub record Fits (X : Rules) : Type 0 where
  pub count : X.count ≤ 128
  pub words : X.words ≤ 2
  pub head : Under 130 X.head
  pub part : Under 130 X.part
  pub first : Under 130 X.first
  pub src : Under 128 X.src

-- What rule i gives is in g, of the bits in In: the bits that its four parts share, and, for each j that it names and whose source is in its
-- first row by the membership M, the bits of row j.
pub record Takes (X : Rules) (i : ℕ) (In : ℕ → Type 0) (M G : ℕ → ℕ → Bool) (g : ℕ → Bool) : Type 0 where
  pub meet : (s : ℕ) → In s → G (el X.part (i * 4)) s ≡ true → G (el X.part (i * 4 + 1)) s ≡ true → G (el X.part (i * 4 + 2)) s ≡ true
      → G (el X.part (i * 4 + 3)) s ≡ true → g s ≡ true
  pub link : (j s : ℕ) → In s → bits X.named i j ≡ true → M (el X.first i) (el X.src j) ≡ true → G j s ≡ true → g s ≡ true

-- membership goes by the relation itself, or by given rows
abbrev pub mem_of : Bool → (ℕ → ℕ → Bool) → (ℕ → ℕ → Bool) → ℕ → ℕ → Bool
mem_of own G M r s = cond own (G r s) (M r s)

unfoldable pub mem_rows : Bool → List ℕ → List ℕ → List ℕ
mem_rows own K M = cond own K M

-- the bits of the words in use
abbrev pub Used : Rules → ℕ → Type 0
Used X s = s / 64 < X.words

-- a relation that takes in what each rule that is on gives
pub record Model (X : Rules) (on : List ℕ) (own : Bool) (M G : ℕ → ℕ → Bool) : Type 0 where
  pub rule : (i : ℕ) → i < X.count → el on i ≡ 1 → Takes X i (Used X) (mem_of own G M) G (G (el X.head i))

pub record Within (G H : ℕ → ℕ → Bool) : Type 0 where
  pub within : (r s : ℕ) → G r s ≡ true → H r s ≡ true

-- rows that grow, within every model that the first rows are in
pub record Grown (X : Rules) (on : List ℕ) (own : Bool) (M K K' : List ℕ) : Type 0 where
  pub sized : length K' ≡ 260
  pub kept : Within (bits K) (bits K')
  pub least : (G : ℕ → ℕ → Bool) → Model X on own (bits M) G → Within (bits K) G → Within (bits K') G

-- the least model that the rows K are in
pub record Closed (X : Rules) (on : List ℕ) (own : Bool) (M K K' : List ℕ) : Type 0 where
  pub grown : Grown X on own M K K'
  pub model : Model X on own (bits M) (bits K')

-- the rows K with bit s of row r
pub record Marked (K : List ℕ) (r s : ℕ) (K' : List ℕ) : Type 0 where
  pub sized : length K' ≡ 260
  pub kept : Within (bits K) (bits K')
  pub here : bits K' r s ≡ true
  pub says : (q t : ℕ) → bits K' q t ≡ true → (bits K q t ≡ true) ⊎ ((q ≡ r) × (t ≡ s))
