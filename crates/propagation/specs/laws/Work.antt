-- What the queue of satisfied nodes keeps. Assumes nothing.
use Rattle.std.specs.Prelude.{ℕ, ◌+◌, ◌*◌, ◌≤◌, ◌<◌, ◌≡◌, Bool, true, ◌&&◌, ◌||◌, List, ltb, get_or, length}
use Rattle.propagation.specs.declared.satisfying.Work.{Work}
use Rattle.propagation.specs.laws.Flags.{flag, cnt}
use Rattle.propagation.specs.Flags.{at}
use Rattle.propagation.specs.laws.Satisfied.{Graph, from_at, slot_at, node_at, filled_by, satisfied_of}

-- the k slots from a on are filled, and k is not 5
unfoldable pub ready_at : ℕ → List ℕ → ℕ → Bool
ready_at k got a = ltb k 5 && (ltb k 1 || flag got a) && (ltb k 2 || flag got (a + 1)) && (ltb k 3 || flag got (a + 2)) && (ltb k 4 || flag got (a + 3))

-- the column has k from number n on
pub record Beyond (n k : ℕ) (col : List ℕ) : Type 0 where
  pub beyond : (i : ℕ) → n ≤ i → i < 128 → get_or col i 0 ≡ k

-- the slots filled, the nodes satisfied, and these in the order of their finding
abbrev pub work : List ℕ → List ℕ → List ℕ → ℕ → Work
work g s q t = record { got = g; sat = s; queue = q; tail = t }

-- all that stands follows from the first m edges, and the queue has each satisfied node once
pub record Base (m : ℕ) (G : Graph) (W : Work) : Type 0 where
  pub few : m ≤ 256
  pub slots : (j : ℕ) → slot_at G j < 512
  pub got-size : length W.got ≡ 512
  pub sat-size : length W.sat ≡ 128
  pub queue-size : length W.queue ≡ 128
  pub got-sound : (k : ℕ) → flag W.got k ≡ true → filled_by m G (at (satisfied_of m G)) k ≡ true
  pub sat-sound : (i : ℕ) → flag W.sat i ≡ true → at (satisfied_of m G) i ≡ true
  pub counted : W.tail ≡ cnt 128 (flag W.sat)
  pub queued : (i : ℕ) → flag W.sat i ≡ true → (r : ℕ) × (r < W.tail) × (get_or W.queue r 0 ≡ i)
  pub standing : (r : ℕ) → r < W.tail → (get_or W.queue r 0 < 128) × (flag W.sat (get_or W.queue r 0) ≡ true)

-- a node below n whose slots are filled is satisfied
pub record Full (n : ℕ) (G : Graph) (W : Work) : Type 0 where
  pub full : (i : ℕ) → i < n → ready_at (node_at G i) W.got (i * 4) ≡ true → flag W.sat i ≡ true

-- what stood stands
pub record Later (W X : Work) : Type 0 where
  pub got-grows : (k : ℕ) → flag W.got k ≡ true → flag X.got k ≡ true
  pub sat-grows : (i : ℕ) → flag W.sat i ≡ true → flag X.sat i ≡ true
  pub kept : (r : ℕ) → r < W.tail → get_or X.queue r 0 ≡ get_or W.queue r 0
  pub more : W.tail ≤ X.tail

-- node p was looked at
pub record Marked (m : ℕ) (G : Graph) (W X : Work) (p : ℕ) : Type 0 where
  pub base : Base m G X
  pub later : Later W X
  pub here : ready_at (node_at G p) W.got (p * 4) ≡ true → flag X.sat p ≡ true

-- edge j was followed
pub record Brought (m : ℕ) (G : Graph) (W X : Work) (j : ℕ) : Type 0 where
  pub base : Base m G X
  pub full : Full 128 G X
  pub later : Later W X
  pub here : flag X.got (slot_at G j) ≡ true

-- the edges from v were followed, those below number h left out
pub record Visited (m : ℕ) (G : Graph) (W X : Work) (v h : ℕ) : Type 0 where
  pub base : Base m G X
  pub full : Full 128 G X
  pub later : Later W X
  pub low : h ≤ m
  pub seen : (e : ℕ) → h ≤ e → e < m → from_at G e ≡ v → flag X.got (slot_at G e) ≡ true

-- the edges of the first q nodes in the queue were followed
pub record Done (m : ℕ) (G : Graph) (W : Work) (q : ℕ) : Type 0 where
  pub base : Base m G W
  pub full : Full 128 G W
  pub within : q ≤ W.tail
  pub done : (e r : ℕ) → e < m → r < q → from_at G e ≡ get_or W.queue r 0 → flag W.got (slot_at G e) ≡ true
