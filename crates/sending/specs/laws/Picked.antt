-- Columns that say which credentials of a pool pass a test. Assumes nothing.
use Rattle.std.specs.Prelude.{ℕ, zero, suc, ◌+◌, ◌≤◌, ◌<◌, ◌≡◌, refl, Bool, true, false, not, cond, List, [], ◌∷◌, ◌++◌, eqb, length, set, replicate}
use Rattle.std.proofs.Common.{arith, sym, ◌∙◌, ap, ap₂, ⊎_elim, eqb-true, length-set, get_or-set_same, get_or-set_other}
use Rattle.std.proofs.lemmas.Bool.{eqb-false}
use Rattle.expression.specs.declared.Credential.{Credential}
use Rattle.rt0.specs.declared.Pool.{Pool}
use Rattle.rt0.specs.laws.Pool.{credential_at, credentials}
use Rattle.rt0.specs.Pool.{up_to}
use Rattle.closure.specs.laws.Rules.{el}
use Rattle.propagation.specs.laws.Flags.{decided, flag_is}
use Rattle.rules.specs.laws.Table.{chosen_to, chosen}
use Rattle.rules.specs.laws.Exact.{chosen-all}
use Rattle.tables.specs.Public.{keep}

-- what is kept of two lists, one after the other
pub keep_append : {A : Type 0} (f : A → Bool) (xs ys : List A) → keep f (xs ++ ys) ≡ keep f xs ++ keep f ys
keep_append f [] ys = refl
keep_append f (x ∷ xs) ys = go (f x) (keep_append f xs ys)
  where
    go : (b : Bool) → keep f (xs ++ ys) ≡ keep f xs ++ keep f ys
        → cond b (x ∷ keep f (xs ++ ys)) (keep f (xs ++ ys)) ≡ cond b (x ∷ keep f xs) (keep f xs) ++ keep f ys
    go true h = ap (λ (l : List _). x ∷ l) h
    go false h = h

-- the first i are told
pub record Picked (f : Credential → Bool) (P : Pool) (i : ℕ) (on : List ℕ) : Type 0 where
  pub sized : length on ≡ 128
  pub says : (j : ℕ) → j < i → eqb (el on j) 1 ≡ f (credential_at P j)

-- 1 where a test fails
module _ {a b : Bool} (e : a ≡ b) where
  pub flag_off : a ≡ true → ◌≡◌ {A = ℕ} 0 (cond (not b) 1 0)
  flag_off h = ap (λ (x : Bool). cond (not x) 1 0) (sym h ∙ e)

  pub flag-on : a ≡ false → ◌≡◌ {A = ℕ} 1 (cond (not b) 1 0)
  flag-on h = ap (λ (x : Bool). cond (not x) 1 0) (sym h ∙ e)

module _ (f : Credential → Bool) (P : Pool) where
  pub picked-start : (on : List ℕ) → length on ≡ 128 → Picked f P 0 on
  picked-start on l = record { sized = l; says = λ j h. absurd (omega arith) }

  pub picked_next : {i v : ℕ} {on q : List ℕ} {c : Credential} → Picked f P i on → i < 128 → c ≡ credential_at P i → v ≡ cond (f c) 1 0
      → q ≡ set on i v → Picked f P (i + 1) q
  picked_next {i} {v} {on} {q} {c} p l ce ve qe =
      record {
        sized = ap length qe ∙ length-set on i v ∙ p.sized;
        says = λ j h.
            ⊎_elim
            (λ z.
            let same : j ≡ i = eqb-true j i z in
            ap (λ (x : List ℕ). eqb (el x j) 1) qe
            ∙ ap (λ (k : ℕ). eqb (el (set on i v) k) 1) same
            ∙ ap (λ (x : ℕ). eqb x 1) (get_or-set_same on i v 0 (omega (arith, p.sized)))
            ∙ ap (λ (x : ℕ). eqb x 1) ve
            ∙ flag_is (f c)
            ∙ ap f ce
            ∙ ap (λ (k : ℕ). f (credential_at P k)) (sym same))
            (λ z. ap (λ (x : List ℕ). eqb (el x j) 1) qe ∙ ap (λ (x : ℕ). eqb x 1) (get_or-set_other on i j v 0 (eqb-false j i z))
            ∙ p.says j (omega (arith, eqb-false j i z)))
            (decided (eqb j i));
      }

  kept-one : (c : Credential) (b : Bool) → b ≡ f c → cond b (c ∷ []) [] ≡ keep f (c ∷ [])
  kept-one c b h = ap (λ (x : Bool). cond x (c ∷ []) []) h

  picked-to : (on : List ℕ) (n : ℕ) → ((j : ℕ) → j < n → eqb (el on j) 1 ≡ f (credential_at P j)) → chosen_to P on n ≡ keep f (up_to n (credential_at P))
  picked-to on zero h = refl
  picked-to on (suc n) h =
      ap₂ (λ (a b : List Credential). a ++ b) (picked-to on n (λ j l. h j (omega arith))) (kept-one (credential_at P n) (eqb (el on n) 1) (h n (omega arith)))
      ∙ sym (keep_append f (up_to n (credential_at P)) (credential_at P n ∷ []))

  pub picked_all : {i : ℕ} {on : List ℕ} → Picked f P i on → P.count ≤ i → chosen P on ≡ keep f (credentials P)
  unfolding chosen credentials
  picked_all {i} {on} p l = picked-to on P.count (λ j h. p.says j (omega arith))

-- where all are on
ones-at : (n i : ℕ) → i < n → el (replicate n 1) i ≡ 1
ones-at zero i l = absurd (omega arith)
ones-at (suc n) zero l = refl
ones-at (suc n) (suc i) l = ones-at n i (omega arith)

pub all-on : (P : Pool) → P.count ≤ 128 → chosen P (replicate 128 1) ≡ credentials P
unfolding chosen credentials
all-on P l = chosen-all P (replicate 128 1) P.count (λ i h. ones-at 128 i (omega arith))
