-- The members of a frontier are the stops that the chains come to. Assumes nothing.
use Rattle.std.specs.Prelude.{ℕ, ◌<◌, ◌≡◌, refl, Bool, true, false, length}
use Rattle.std.proofs.Math.Path.{sym, ap}
use Rattle.std.proofs.Common.{◌∙◌, subst}
use mathlib.Core.List.{List, Memᴰ}
use Rattle.expression.specs.declared.Role.{Role}
use Rattle.expression.specs.declared.Credential.{Credential}
use Rattle.expression.specs.declared.Expression.{Expression}
use Rattle.expression.specs.declared.Expression.TheVariants as E
use Rattle.rt0.specs.declared.Pool.{Pool}
use Rattle.rt0.specs.laws.Pool.{head_at, body_at, credential_at}
use Rattle.closure.specs.laws.Rules.{el}
use Rattle.propagation.specs.laws.Flags.{flag}
use Rattle.word.specs.laws.Bools.{false-true}
use Rattle.rules.specs.laws.Table.{chosen}
use Rattle.rules.specs.laws.Exact.{chosen-mem, chosen-find}
use Rattle.frontier.specs.Frontier.{Frontier, here, through}

-- Credential i of a pool is found from the role e: it is on, and its head is e or the body, no stop, of one that is found.
pub data Chain (P : Pool) (on stop : List ℕ) (e : Role) : ℕ → Type 0 where
  first : {i : ℕ} → i < P.count → el on i ≡ 1 → head_at P i ≡ e → Chain P on stop e i
  next : {j i : ℕ} → Chain P on stop e j → flag stop j ≡ false → body_at P j ≡ E.Role (head_at P i) → i < P.count → el on i ≡ 1 → Chain P on stop e i

-- the stops are the bodies of which pred is true
pub record Stops (pred : Expression → Bool) (P : Pool) (stop : List ℕ) : Type 0 where
  pub stops : (i : ℕ) → i < P.count → flag stop i ≡ pred (body_at P i)

-- f is a stop, and the body of a credential that is found
pub record Stopped (P : Pool) (on stop : List ℕ) (e : Role) (f : Expression) : Type 0 where
  pub at : ℕ
  pub chain : Chain P on stop e at
  pub ends : flag stop at ≡ true
  pub body : body_at P at ≡ f

-- the column flags the credentials that are found, and no other
pub record Reaches (P : Pool) (on stop : List ℕ) (e : Role) (r : List ℕ) : Type 0 where
  pub sized : length r ≡ 128
  pub sound : (i : ℕ) → flag r i ≡ true → Chain P on stop e i
  pub complete : (i : ℕ) → Chain P on stop e i → flag r i ≡ true

-- f is a stop, and the body of a credential that the column flags
pub record Member (P : Pool) (stop r : List ℕ) (f : Expression) : Type 0 where
  pub at : ℕ
  pub below : at < P.count
  pub flagged : flag r at ≡ true
  pub ends : flag stop at ≡ true
  pub body : body_at P at ≡ f

module _ {pred : Expression → Bool} where
  -- "If pred(e) is true, frontier(e) = {e}"
  pub frontier-here : {C : List Credential} {e f : Expression} → pred e ≡ true → Frontier pred C e f → f ≡ e
  frontier-here t (here h) = refl
  frontier-here t (through n m q k) = absurd (false-true (sym n ∙ t))

  -- with more credentials a frontier has more members
  pub frontier-more : {C D : List Credential} {e f : Expression} → ((c : Credential) → Memᴰ c C → Memᴰ c D) → Frontier pred C e f
      → Frontier pred D e f
  frontier-more s (here h) = here h
  frontier-more s (through {c = c} n m q k) = through n (s c m) q (frontier-more s k)

  -- each member of a frontier is an expression of which pred is true
  pub frontier-pred : {C : List Credential} {e f : Expression} → Frontier pred C e f → pred f ≡ true
  frontier-pred (here h) = h
  frontier-pred (through n m q k) = frontier-pred k

  -- "the pointwise-minimal function": a relation with the two conditions has all members
  pub frontier-least : {C : List Credential} (F : Expression → Expression → Type 0) → ((e : Expression) → pred e ≡ true → F e e)
      → ((c : Credential) (f : Expression) → Memᴰ c C → pred (E.Role c.head) ≡ false → F c.body f → F (E.Role c.head) f)
      → {e f : Expression} → Frontier pred C e f → F e f
  frontier-least F own on (here {e = e} h) = own e h
  frontier-least F own on (through {f = f} {c = c} n m q k) =
      subst (λ (x : Expression). F x f) (sym q) (on c f m (sym (ap pred q) ∙ n) (frontier-least F own on k))

pub role-eq : {p q : Role} → E.Role p ≡ E.Role q → p ≡ q
role-eq h = cc

module _ {P : Pool} {on stop : List ℕ} {e : Role} where
  pub chain-below : {i : ℕ} → Chain P on stop e i → i < P.count
  chain-below (first l o h) = l
  chain-below (next k s q l o) = l

  pub chain-on : {i : ℕ} → Chain P on stop e i → el on i ≡ 1
  chain-on (first l o h) = o
  chain-on (next k s q l o) = o

  module _ {pred : Expression → Bool} (S : Stops pred P stop) where
    walk : {x f : Expression} (j : ℕ) → Chain P on stop e j → body_at P j ≡ x → Frontier pred (chosen P on) x f → Stopped P on stop e f
    unfolding chosen
    walk j k q (here h) = record { at = j; chain = k; ends = S.stops j (chain-below k) ∙ (ap pred q ∙ h); body = q }
    walk j k q (through {c = c} n m r h) =
        let w = chosen-find P on P.count c m in
        let z : E.Role c.head ≡ E.Role (head_at P w.0) = ap (λ (d : Credential). E.Role d.head) w.3 in
        let b : body_at P w.0 ≡ c.body = sym (ap (λ (d : Credential). d.body) w.3) in
        walk w.0 (next k (S.stops j (chain-below k) ∙ (ap pred q ∙ n)) (q ∙ (r ∙ z)) w.1 w.2) b h

    -- a chain begins with a credential of the role
    begun : {f : Expression} (i : ℕ) → Chain P on stop e i → Frontier pred (chosen P on) (body_at P i) f
        → (c : Credential) × Memᴰ c (chosen P on) × (c.head ≡ e) × Frontier pred (chosen P on) c.body f
    unfolding chosen
    begun i (first l o h) k = (credential_at P i, chosen-mem P on P.count i l o, h, k)
    begun i (next {j = j} c s q l o) k =
        begun j c (through {c = credential_at P i} (sym (S.stops j (chain-below c)) ∙ s) (chosen-mem P on P.count i l o) q k)

    -- a chain leads to each member of the frontier of the body of a credential of the role
    pub body-stopped : {f : Expression} (c : Credential) → Memᴰ c (chosen P on) → c.head ≡ e → Frontier pred (chosen P on) c.body f
        → Stopped P on stop e f
    unfolding chosen
    body-stopped c m h k =
        let w = chosen-find P on P.count c m in
        let z : head_at P w.0 ≡ c.head = sym (ap (λ (d : Credential). d.head) w.3) in
        let b : body_at P w.0 ≡ c.body = sym (ap (λ (d : Credential). d.body) w.3) in
        walk w.0 (first w.1 w.2 (z ∙ h)) b k

    -- and each stop that a chain leads to is a member of such a frontier
    pub stopped-body : {f : Expression} → Stopped P on stop e f
        → (c : Credential) × Memᴰ c (chosen P on) × (c.head ≡ e) × Frontier pred (chosen P on) c.body f
    stopped-body {f} w =
        begun w.at w.chain (subst (λ (x : Expression). Frontier pred (chosen P on) (body_at P w.at) x) w.body
        (here (sym (S.stops w.at (chain-below w.chain)) ∙ w.ends)))

    -- where pred is false of a role, a chain leads to each member of its frontier
    pub frontier-stopped : {f : Expression} → pred (E.Role e) ≡ false → Frontier pred (chosen P on) (E.Role e) f → Stopped P on stop e f
    frontier-stopped n (here h) = absurd (false-true (sym n ∙ h))
    frontier-stopped n (through {c = c} _ m r h) = body-stopped c m (sym (role-eq r)) h

    -- and each stop that a chain leads to is a member
    pub stopped-frontier : {f : Expression} → pred (E.Role e) ≡ false → Stopped P on stop e f → Frontier pred (chosen P on) (E.Role e) f
    stopped-frontier n w = let b = stopped-body w in through {c = b.0} n b.1 (ap E.Role (sym b.2)) b.3

    -- both: the members are the stops that the chains come to
    pub frontier-chain : {f : Expression} → pred (E.Role e) ≡ false
        → (Frontier pred (chosen P on) (E.Role e) f → Stopped P on stop e f) × (Stopped P on stop e f → Frontier pred (chosen P on) (E.Role e) f)
    frontier-chain n = (frontier-stopped n, stopped-frontier n)

    -- the stops as they are read off a column of the credentials found
    module _ {r : List ℕ} {f : Expression} (R : Reaches P on stop e r) where
      pub stopped-member : Stopped P on stop e f → Member P stop r f
      stopped-member w = record { at = w.at; below = chain-below w.chain; flagged = R.complete w.at w.chain; ends = w.ends; body = w.body }

      pub member-stopped : Member P stop r f → Stopped P on stop e f
      member-stopped m = record { at = m.at; chain = R.sound m.at m.flagged; ends = m.ends; body = m.body }

    -- the frontier as it is read off the column
    pub frontier-member : {r : List ℕ} {f : Expression} → pred (E.Role e) ≡ false → Reaches P on stop e r
        → (Frontier pred (chosen P on) (E.Role e) f → Member P stop r f) × (Member P stop r f → Frontier pred (chosen P on) (E.Role e) f)
    frontier-member n R = (λ h. stopped-member R (frontier-stopped n h), λ m. stopped-frontier n (member-stopped R m))
