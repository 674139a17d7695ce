-- What the queue of the credentials found keeps. Assumes nothing.
use Rattle.std.specs.Prelude.{ℕ, ◌+◌, ◌*◌, ◌≤◌, ◌<◌, ◌≡◌, ◌⊎◌, Bool, true, false, ◌&&◌, List, eqb, get_or, length}
use Rattle.expression.specs.declared.Role.{Role}
use Rattle.expression.specs.declared.Expression.{Expression}
use Rattle.expression.specs.declared.Expression.TheVariants as E
use Rattle.expression.specs.Same.{same_role}
use Rattle.rt0.specs.From.{role_of}
use Rattle.rt0.specs.declared.Pool.{Pool}
use Rattle.rt0.specs.laws.Pool.{head_at, body_at}
use Rattle.closure.specs.laws.Rules.{el}
use Rattle.propagation.specs.laws.Flags.{flag, cnt}
use Rattle.frontier.specs.declared.Work.{Work}
use Rattle.frontier.specs.laws.Frontier.{Chain}

-- credential i is on and has the head p
unfoldable pub is_next : List ℕ → List ℕ → Role → ℕ → Bool
is_next H on p i = eqb (el on i) 1 && same_role (role_of (get_or H (i * 2) 0) (get_or H (i * 2 + 1) 0)) p

-- credential i is on, and its head is x
pub record Next (P : Pool) (on : List ℕ) (x : Expression) (i : ℕ) : Type 0 where
  pub below : i < P.count
  pub is-on : el on i ≡ 1
  pub head : x ≡ E.Role (head_at P i)

-- the credentials found, and these in the order of their finding
abbrev pub work : List ℕ → List ℕ → ℕ → Work
work f q t = record { found = f; queue = q; tail = t }

-- the queue has each credential found once
pub record Queue (W : Work) : Type 0 where
  pub found-size : length W.found ≡ 128
  pub queue-size : length W.queue ≡ 128
  pub counted : W.tail ≡ cnt 128 (flag W.found)
  pub queued : (i : ℕ) → flag W.found i ≡ true → (r : ℕ) × (r < W.tail) × (get_or W.queue r 0 ≡ i)
  pub standing : (r : ℕ) → r < W.tail → flag W.found (get_or W.queue r 0) ≡ true

-- what was found is found, in the same order
pub record Later (W X : Work) : Type 0 where
  pub grows : (i : ℕ) → flag W.found i ≡ true → flag X.found i ≡ true
  pub kept : (r : ℕ) → r < W.tail → get_or X.queue r 0 ≡ get_or W.queue r 0
  pub more : W.tail ≤ X.tail

-- credential i was looked at
pub record Joined (P : Pool) (on : List ℕ) (W X : Work) (p : Role) (i : ℕ) : Type 0 where
  pub base : Queue X
  pub later : Later W X
  pub here : Next P on (E.Role p) i → flag X.found i ≡ true
  pub only : (j : ℕ) → flag X.found j ≡ true → (flag W.found j ≡ true) ⊎ ((j ≡ i) × Next P on (E.Role p) i)

-- of the credentials below k, those with the head x were found, and no other
pub record Entered (P : Pool) (on : List ℕ) (W X : Work) (x : Expression) (k : ℕ) : Type 0 where
  pub base : Queue X
  pub later : Later W X
  pub seen : (i : ℕ) → i < k → Next P on x i → flag X.found i ≡ true
  pub only : (j : ℕ) → flag X.found j ≡ true → (flag W.found j ≡ true) ⊎ Next P on x j

-- credential j was followed: unless its body is a stop, those with this head were found
pub record Followed (P : Pool) (on stop : List ℕ) (W X : Work) (j : ℕ) : Type 0 where
  pub base : Queue X
  pub later : Later W X
  pub seen : (i : ℕ) → flag stop j ≡ false → Next P on (body_at P j) i → flag X.found i ≡ true
  pub only : (i : ℕ) → flag X.found i ≡ true → (flag W.found i ≡ true) ⊎ ((flag stop j ≡ false) × Next P on (body_at P j) i)

-- the first q credentials in the queue were followed
pub record Done (P : Pool) (on stop : List ℕ) (e : Role) (W : Work) (q : ℕ) : Type 0 where
  pub base : Queue W
  pub sound : (i : ℕ) → flag W.found i ≡ true → Chain P on stop e i
  pub starts : (i : ℕ) → Next P on (E.Role e) i → flag W.found i ≡ true
  pub within : q ≤ W.tail
  pub done : (r i : ℕ) → r < q → flag stop (get_or W.queue r 0) ≡ false → Next P on (body_at P (get_or W.queue r 0)) i → flag W.found i ≡ true

-- from W on, the first q credentials in the queue were followed, wherever the search began
pub record Running (P : Pool) (on stop : List ℕ) (W X : Work) (q : ℕ) : Type 0 where
  pub base : Queue X
  pub goes : (e : Role) → Done P on stop e W 0 → Done P on stop e X q
