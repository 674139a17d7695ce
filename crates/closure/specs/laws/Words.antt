-- What the steps of a closure promise: a rule's word, a turn, a pass. Assumes nothing.
use Rattle.std.specs.Prelude.{ℕ, ◌+◌, ◌*◌, ◌-◌, ◌/◌, ◌%◌, ◌^◌, ◌≤◌, ◌<◌, ◌≡◌, Bool, true, false, cond, List, [], ◌∷◌, length}
use Rattle.std.specs.Int.Bits.{bit_and}
use Rattle.word.specs.laws.Bit.{bit_at}
use Rattle.closure.specs.declared.Rules.{Rules}
use Rattle.closure.specs.laws.Rules.{el, bits, mem_of, Used, Takes, Model, Within, Grown}

-- the bits of word h
abbrev pub InWord : ℕ → ℕ → Type 0
InWord h s = s / 64 ≡ h

-- w is word h of the rows b + j of L, for the numbers j of N whose source is in row f of M
pub record LinksOf (N b h f : ℕ) (S L M : List ℕ) (w : ℕ) : Type 0 where
  pub says : (t : ℕ) → bit_at w t ≡ true
      → (j : ℕ) × (j < 64) × (bit_at N j ≡ true) × (bits M f (el S (b + j)) ≡ true) × (bit_at (el L ((b + j) * 2 + h)) t ≡ true)
  pub all : (j t : ℕ) → bit_at N j ≡ true → bits M f (el S (b + j)) ≡ true → bit_at (el L ((b + j) * 2 + h)) t ≡ true → bit_at w t ≡ true

-- what four rows share of word h
abbrev pub meet_of : List ℕ → ℕ → ℕ → ℕ → ℕ → ℕ → ℕ
meet_of L a b c d h = bit_and (bit_and (bit_and (el L (a * 2 + h)) (el L (b * 2 + h))) (el L (c * 2 + h))) (el L (d * 2 + h))

-- w is word h of what rule i gives from the rows L, with membership M
pub record WordOf (X : Rules) (i h : ℕ) (L M : List ℕ) (w : ℕ) : Type 0 where
  pub taken : Takes X i (InWord h) (bits M) (bits L) (λ (s : ℕ). bit_at w (s % 64))
  pub least : (m G : ℕ → ℕ → Bool) (g : ℕ → Bool) → Within (bits L) G → Within (bits M) m → Takes X i (InWord h) m G g
      → (s : ℕ) → s / 64 ≡ h → bit_at w (s % 64) ≡ true → g s ≡ true

-- what the rows can still take in
abbrev pub room : List ℕ → ℕ
room [] = 0
room (x ∷ l) = (2 ^ 64 - x) + room l

-- rule i gives the rows K nothing new, of the bits in In
abbrev pub Unchanged : Rules → Bool → List ℕ → ℕ → (ℕ → Type 0) → List ℕ → Type 0
Unchanged X own M i In K = Takes X i In (mem_of own (bits K) (bits M)) (bits K) (bits K (el X.head i))

-- the rows after rule i at word h, and whether they grew
pub record TurnOf (X : Rules) (own : Bool) (M : List ℕ) (i h : ℕ) (K K' : List ℕ) (r : Bool) : Type 0 where
  pub sized : length K' ≡ 260
  pub kept : Within (bits K) (bits K')
  pub least : (G : ℕ → ℕ → Bool) → Takes X i (Used X) (mem_of own G (bits M)) G (G (el X.head i)) → Within (bits K) G → Within (bits K') G
  pub fewer : room K' + cond r 1 0 ≤ room K
  pub same : r ≡ false → K ≡ K'
  pub still : r ≡ false → Unchanged X own M i (InWord h) K'

-- the rows after rule i, and whether they grew
pub record RuleOf (X : Rules) (on : List ℕ) (own : Bool) (M : List ℕ) (i : ℕ) (K K' : List ℕ) (r : Bool) : Type 0 where
  pub grown : Grown X on own M K K'
  pub fewer : room K' + cond r 1 0 ≤ room K
  pub same : r ≡ false → K ≡ K'
  pub still : r ≡ false → i < X.count → el on i ≡ 1 → Unchanged X own M i (Used X) K'

-- the rows after each rule, and how many rules made them grow
pub record PassOf (X : Rules) (on : List ℕ) (own : Bool) (M K K' : List ℕ) (added : ℕ) : Type 0 where
  pub grown : Grown X on own M K K'
  pub fewer : room K' + added ≤ room K
  pub still : added ≡ 0 → Model X on own (bits M) (bits K')

-- the rows K, where row r took in row j, of the words below w
pub record Poured (w j r : ℕ) (K K' : List ℕ) : Type 0 where
  pub sized : length K' ≡ 260
  pub kept : Within (bits K) (bits K')
  pub least : (G : ℕ → ℕ → Bool) → ((s : ℕ) → s / 64 < w → G j s ≡ true → G r s ≡ true) → Within (bits K) G → Within (bits K') G

-- the rows below k of K hold, in word h, only what w does
pub record HeldOf (h k : ℕ) (K : List ℕ) (w : ℕ) : Type 0 where
  pub all : (r t : ℕ) → r < k → bit_at (el K (r * 2 + h)) t ≡ true → bit_at w t ≡ true

-- where b is true, row r of K has the words lo and hi, of those below w
pub record FullOf (w lo hi r : ℕ) (K : List ℕ) (b : Bool) : Type 0 where
  pub low : b ≡ true → el K (r * 2) ≡ lo
  pub high : b ≡ true → 1 < w → el K (r * 2 + 1) ≡ hi

-- the relation in which each row has the words lo and hi
unfoldable pub level : ℕ → ℕ → ℕ → ℕ → Bool
level lo hi r s = bits (lo ∷ hi ∷ []) 0 s

-- each row below k of K that holds a bit in its first word is in the set w
pub record FilledOf (k : ℕ) (K : List ℕ) (w : ℕ) : Type 0 where
  pub all : (j t : ℕ) → j < k → bit_at (el K (j * 2)) t ≡ true → bit_at w j ≡ true

-- where b is true, rule i gives the rows K nothing new, if it is on
pub record RestsOf (X : Rules) (on : List ℕ) (own : Bool) (M : List ℕ) (i : ℕ) (K : List ℕ) (b : Bool) : Type 0 where
  pub quiet : b ≡ true → el on i ≡ 1 → Unchanged X own M i (Used X) K

-- where b is true, no rule gives the rows K anything new
pub record StillOf (X : Rules) (on : List ℕ) (own : Bool) (M K : List ℕ) (b : Bool) : Type 0 where
  pub model : b ≡ true → Model X on own (bits M) (bits K)
