-- Columns that say which credentials are on lead to the needed ones. Assumes nothing.
use Prim.Native.Nat.{ℕ, zero, suc, ◌+◌, ◌-◌, ◌≤◌, ◌<◌}
use native.Mathlib.Omega.{arith}
use Rattle.std.proofs.Common.{add-one, ◌∙◌, inl, inr, ⊎_elim, eqb-true, eq-eqb, ne_eqb, ltb-true, ltb-false, length-set, get_or-set_same, get_or-set_other}
use Rattle.std.specs.Prelude.{◌≡◌, refl, ◌⊎◌, Bool, true, false, cond, eqb, ltb, length, set, replicate}
use Rattle.std.proofs.Math.Path.{sym, ap, subst}
use mathlib.Core.List.Memᴰ
use mathlib.Core.List.{List, [], ◌∷◌, ◌++◌, append_assoc, append-nil, Memᴰ}
use Rattle.std.proofs.lemmas.Bool.{eqb-false}
use Rattle.std.proofs.lemmas.List.{length-replicate}
use Rattle.expression.specs.declared.Credential.{Credential}
use Rattle.rt0.specs.declared.Pool.{Pool}
use Rattle.rt0.specs.laws.Added.{up_to-same}
use Rattle.rt0.specs.Pool.{up_to}
use Rattle.rt0.specs.laws.Pool.{credential_at, credentials}
use Rattle.closure.specs.laws.Rules.{el}
use Rattle.rules.specs.laws.Table.{chosen, chosen_to}
use Rattle.needed.specs.laws.Needed.{first_of, rest_of}
use Rattle.needed.specs.laws.Columns.{FirstOn, WithRest}
use Rattle.word.specs.laws.Search.{zeros}

-- Lists by their numbers

module _ {A : Type 0} where
  up_to-split : (a b : ℕ) (f : ℕ → A) → up_to (a + b) f ≡ up_to a f ++ up_to b (λ (i : ℕ). f (a + i))
  up_to-split a zero f = let z : a + zero ≡ a = omega arith in ap (λ (m : ℕ). up_to m f) z ∙ sym (append-nil (up_to a f))
  up_to-split a (suc b) f =
      let z : a + suc b ≡ suc (a + b) = omega arith in
      ap (λ (m : ℕ). up_to m f) z
      ∙ (ap (λ (l : List A). l ++ (f (a + b) ∷ [])) (up_to-split a b f) ∙ append_assoc (up_to a f) (up_to b (λ (i : ℕ). f (a + i))) (f (a + b) ∷ []))

  pub up_to-mem : (n : ℕ) (f : ℕ → A) (i : ℕ) → i < n → Memᴰ (f i) (up_to n f)
  up_to-mem zero f i l = absurd (omega arith)
  up_to-mem (suc n) f i l = go (eqb i n) refl (λ k. up_to-mem n f i k)
    where
      go : (t : Bool) → eqb i n ≡ t → (i < n → Memᴰ (f i) (up_to n f)) → Memᴰ (f i) (up_to (suc n) f)
      go true e ih = Memᴰ.append_right (up_to n f) (Memᴰ.head (ap f (eqb-true i n e)))
      go false e ih = Memᴰ.append_left (f n ∷ []) (ih (omega (arith, eqb-false i n e)))

  pub up_to-find : (n : ℕ) (f : ℕ → A) (x : A) → Memᴰ x (up_to n f) → (i : ℕ) × (i < n) × (x ≡ f i)
  up_to-find zero f x m = absurd (Memᴰ.not-nil m)
  up_to-find (suc n) f x m =
      ⊎_elim (λ k. let r = up_to-find n f x k in let l : r.0 < n = r.1 in (r.0, omega arith, r.2))
      (λ k. (n, omega arith, Memᴰ.eq_of_singleton k)) (Memᴰ.append_cases (up_to n f) m)

-- The credentials from a number on

module _ (P : Pool) where
  pub rest-split : (a k : ℕ) → a ≤ k → k ≤ P.count → rest_of P a ≡ up_to (k - a) (λ (i : ℕ). credential_at P (a + i)) ++ rest_of P k
  unfolding rest_of
  rest-split a k l m =
      let z : P.count - a ≡ (k - a) + (P.count - k) = omega arith in
      ap (λ (d : ℕ). up_to d (λ (i : ℕ). credential_at P (a + i))) z
      ∙ (up_to-split (k - a) (P.count - k) (λ (i : ℕ). credential_at P (a + i))
      ∙ ap (λ (l : List Credential). up_to (k - a) (λ (i : ℕ). credential_at P (a + i)) ++ l)
      (up_to-same (P.count - k) _ _ (λ i _. let y : a + ((k - a) + i) ≡ k + i = omega arith in ap (credential_at P) y)))

  pub rest-next : (k : ℕ) → k < P.count → rest_of P k ≡ credential_at P k ∷ rest_of P (k + 1)
  rest-next k l =
      rest-split k (k + 1) (omega arith) (omega arith) ∙ ap (λ (l : List Credential). l ++ rest_of P (k + 1)) one
    where
      one : up_to ((k + 1) - k) (λ (i : ℕ). credential_at P (k + i)) ≡ credential_at P k ∷ []
      one =
          let z : (k + 1) - k ≡ suc zero = omega arith in
          let y : k + zero ≡ k = omega arith in
          ap (λ (d : ℕ). up_to d (λ (i : ℕ). credential_at P (k + i))) z ∙ ap (λ (i : ℕ). credential_at P i ∷ []) y

  pub rest-none : (k : ℕ) → P.count ≤ k → rest_of P k ≡ []
  unfolding rest_of
  rest-none k l = let z : P.count - k ≡ zero = omega arith in ap (λ (d : ℕ). up_to d (λ (i : ℕ). credential_at P (k + i))) z

  pub rest-mem : (k i : ℕ) → k ≤ i → i < P.count → Memᴰ (credential_at P i) (rest_of P k)
  unfolding rest_of
  rest-mem k i l m =
      let z : k + (i - k) ≡ i = omega arith in
      subst (λ (j : ℕ). Memᴰ (credential_at P j) (rest_of P k)) z (up_to-mem (P.count - k) (λ (j : ℕ). credential_at P (k + j)) (i - k) (omega arith))

  pub rest-find : (k : ℕ) (c : Credential) → Memᴰ c (rest_of P k) → (i : ℕ) × (k ≤ i) × (i < P.count) × (c ≡ credential_at P i)
  unfolding rest_of
  rest-find k c m =
      let r = up_to-find (P.count - k) (λ (j : ℕ). credential_at P (k + j)) c m in
      let l : r.0 < P.count - k = r.1 in
      (k + r.0, omega arith, omega arith, r.2)

-- the credentials of a pool are the first ones and the rest
pub first_rest : (P : Pool) (s : ℕ) → s ≤ P.count → credentials P ≡ first_of P s ++ rest_of P s
unfolding credentials first_of rest_of
first_rest P s l =
    let z : P.count ≡ s + (P.count - s) = omega arith in
    ap (λ (n : ℕ). up_to n (credential_at P)) z ∙ up_to-split s (P.count - s) (credential_at P)

-- Columns

pub lt-or : (i k : ℕ) → (i < k) ⊎ (k ≤ i)
lt-or i k = go (ltb i k) refl
  where
    go : (b : Bool) → ltb i k ≡ b → (i < k) ⊎ (k ≤ i)
    go true q = inl (ltb-true i k q)
    go false q = inr (ltb-false i k q)

-- Those chosen by a column

module _ (P : Pool) where
  same_chosen : (r q : List ℕ) (m : ℕ) → ((i : ℕ) → i < m → el r i ≡ el q i) → chosen_to P r m ≡ chosen_to P q m
  same_chosen r q zero h = refl
  same_chosen r q (suc m) h =
      ap (λ (l : List Credential). l ++ cond (eqb (el r m) 1) (credential_at P m ∷ []) []) (same_chosen r q m (λ i l. h i (omega arith)))
      ∙ ap (λ (x : ℕ). chosen_to P q m ++ cond (eqb x 1) (credential_at P m ∷ []) []) (h m (omega arith))

  none-chosen : (r : List ℕ) (a d : ℕ) → ((i : ℕ) → a ≤ i → el r i ≡ 1 → ⊥) → chosen_to P r (a + d) ≡ chosen_to P r a
  none-chosen r a zero h = let z : a + zero ≡ a = omega arith in ap (chosen_to P r) z
  none-chosen r a (suc d) h =
      let z : a + suc d ≡ suc (a + d) = omega arith in
      ap (chosen_to P r) z
      ∙ (ap (λ (b : Bool). chosen_to P r (a + d) ++ cond b (credential_at P (a + d) ∷ []) []) (ne_eqb (el r (a + d)) 1 (h (a + d) (omega arith)))
      ∙ (append-nil (chosen_to P r (a + d)) ∙ none-chosen r a d h))

  all-chosen : (r : List ℕ) (a d : ℕ) → ((i : ℕ) → a ≤ i → i < a + d → el r i ≡ 1)
      → chosen_to P r (a + d) ≡ chosen_to P r a ++ up_to d (λ (i : ℕ). credential_at P (a + i))
  all-chosen r a zero h = let z : a + zero ≡ a = omega arith in ap (chosen_to P r) z ∙ sym (append-nil (chosen_to P r a))
  all-chosen r a (suc d) h =
      let z : a + suc d ≡ suc (a + d) = omega arith in
      ap (chosen_to P r) z
      ∙ (ap (λ (b : Bool). chosen_to P r (a + d) ++ cond b (credential_at P (a + d) ∷ []) []) (eq-eqb (el r (a + d)) 1 (h (a + d) (omega arith) (omega arith)))
      ∙ (ap (λ (l : List Credential). l ++ (credential_at P (a + d) ∷ [])) (all-chosen r a d (λ i l m. h i l (omega arith)))
      ∙ append_assoc (chosen_to P r a) (up_to d (λ (i : ℕ). credential_at P (a + i))) (credential_at P (a + d) ∷ [])))

  -- none is chosen by zeros
  pub none-on : (n : ℕ) → chosen P (replicate n 0) ≡ []
  unfolding chosen
  none-on n =
      let z : P.count ≡ 0 + P.count = omega arith in
      ap (chosen_to P (replicate n 0)) z ∙ none-chosen (replicate n 0) 0 P.count (λ i l o. let y : el (replicate n 0) i ≡ 0 = zeros n i in omega arith)

  -- a column whose ones are below a
  chosen-below : (r : List ℕ) (a : ℕ) → a ≤ P.count → ((i : ℕ) → el r i ≡ 1 → i < a) → chosen P r ≡ chosen_to P r a
  unfolding chosen
  chosen-below r a l h =
      let z : P.count ≡ a + (P.count - a) = omega arith in
      ap (chosen_to P r) z ∙ none-chosen r a (P.count - a) (λ i k o. let m : i < a = h i o in omega arith)

  -- with all from a on
  pub rest-chosen : (r q : List ℕ) (a : ℕ) → a ≤ P.count → ((i : ℕ) → el r i ≡ 1 → i < a) → WithRest P.count a r q → chosen P q ≡ chosen P r ++ rest_of P a
  unfolding chosen rest_of
  rest-chosen r q a l h w =
      let z : P.count ≡ a + (P.count - a) = omega arith in
      ap (chosen_to P q) z
      ∙ (all-chosen q a (P.count - a) (λ i k m. w.rest i k (omega arith))
      ∙ ap (λ (l : List Credential). l ++ rest_of P a) (same_chosen q r a w.before ∙ sym (chosen-below r a l h)))

  -- those from a on, and no others
  pub rest-alone : (q : List ℕ) (a : ℕ) → a ≤ P.count → WithRest P.count a (replicate 128 0) q → chosen P q ≡ rest_of P a
  rest-alone q a l w =
      rest-chosen (replicate 128 0) q a l (λ i o. absurd (let z : ◌≡◌ {A = ℕ} (el (replicate 128 0) i) 0 = zeros 128 i in omega arith)) w
      ∙ ap (λ (l : List Credential). l ++ rest_of P a) (none-on 128)

  -- with one more, after all others
  pub one-chosen : (r : List ℕ) (k : ℕ) → length r ≡ 128 → P.count ≤ 128 → k < P.count → ((i : ℕ) → el r i ≡ 1 → i < k)
      → chosen P (set r k 1) ≡ chosen P r ++ (credential_at P k ∷ [])
  one-chosen r k sized small l h =
      chosen-below (set r k 1) (k + 1) (omega arith) below
      ∙ (ap (chosen_to P (set r k 1)) (add-one k)
      ∙ (ap (λ (x : ℕ). chosen_to P (set r k 1) k ++ cond (eqb x 1) (credential_at P k ∷ []) []) (get_or-set_same r k 1 0 (omega arith))
      ∙ ap (λ (l : List Credential). l ++ (credential_at P k ∷ []))
      (same_chosen (set r k 1) r k (λ i m. get_or-set_other r k i 1 0 (λ e. omega arith)) ∙ sym (chosen-below r k (omega arith) h))))
    where
      below : (i : ℕ) → el (set r k 1) i ≡ 1 → i < k + 1
      below i o = go (eqb i k) refl
        where
          go : (b : Bool) → eqb i k ≡ b → i < k + 1
          go true q = let e : i ≡ k = eqb-true i k q in omega arith
          go false q = let m : i < k = h i (sym (get_or-set_other r k i 1 0 (eqb-false i k q)) ∙ o) in omega arith

-- one number set in a column
pub set_at : (l : List ℕ) (k i : ℕ) → length l ≡ 128 → k < 128 → (i ≡ k → ⊥) ⊎ (el (set l k 1) i ≡ 1)
set_at l k i sized m = go (eqb i k) refl
  where
    go : (b : Bool) → eqb i k ≡ b → (i ≡ k → ⊥) ⊎ (el (set l k 1) i ≡ 1)
    go true q = inr (subst (λ (j : ℕ). el (set l k 1) j ≡ 1) (sym (eqb-true i k q)) (get_or-set_same l k 1 0 (omega arith)))
    go false q = inl (eqb-false i k q)

-- a one stays
pub stays : (l : List ℕ) (k i : ℕ) → length l ≡ 128 → k < 128 → el l i ≡ 1 → el (set l k 1) i ≡ 1
stays l k i sized m h = ⊎_elim (λ q. get_or-set_other l k i 1 0 q ∙ h) (λ q. q) (set_at l k i sized m)

-- a one was there or is new
pub came : (l : List ℕ) (k i : ℕ) → el (set l k 1) i ≡ 1 → (el l i ≡ 1) ⊎ (i ≡ k)
came l k i h = go (eqb i k) refl
  where
    go : (b : Bool) → eqb i k ≡ b → (el l i ≡ 1) ⊎ (i ≡ k)
    go true q = inr (eqb-true i k q)
    go false q = inl (sym (get_or-set_other l k i 1 0 (eqb-false i k q)) ∙ h)

pub first-start : FirstOn 0 (replicate 128 0)
first-start = record { sized = length-replicate {A = ℕ} 128 0; shown = λ i l. absurd (omega arith); others = λ i l. zeros 128 i }

pub first-add : (s : ℕ) (on : List ℕ) → s < 128 → FirstOn s on → FirstOn (s + 1) (set on s 1)
first-add s on l h =
    record {
      sized = length-set on s 1 ∙ h.sized;
      shown = λ i m. ⊎_elim (λ q. get_or-set_other on s i 1 0 q ∙ h.shown i (omega arith)) (λ q. q) (set_at on s i h.sized l);
      others = λ i m. get_or-set_other on s i 1 0 (λ q. omega arith) ∙ h.others i (omega arith);
    }

pub first-end : (i s : ℕ) (on : List ℕ) → i ≤ s → s ≤ i → FirstOn i on → FirstOn s on
first-end i s on l m h = let q : i ≡ s = omega arith in subst (λ (j : ℕ). FirstOn j on) q h

-- The rest

pub rest-start : (a : ℕ) (r : List ℕ) → length r ≡ 128 → WithRest a a r r
rest-start a r sized = record { sized = sized; before = λ i l. refl; rest = λ i l m. absurd (omega arith); after = λ i l. refl }

pub rest-add : (n a : ℕ) (r q : List ℕ) → a ≤ n → n < 128 → WithRest n a r q → WithRest (n + 1) a r (set q n 1)
rest-add n a r q l m h =
    record {
      sized = length-set q n 1 ∙ h.sized;
      before = λ i k. get_or-set_other q n i 1 0 (λ e. omega arith) ∙ h.before i k;
      rest = λ i k o. ⊎_elim (λ e. get_or-set_other q n i 1 0 e ∙ h.rest i k (omega arith)) (λ e. e) (set_at q n i h.sized m);
      after = λ i k. get_or-set_other q n i 1 0 (λ e. omega arith) ∙ h.after i (omega arith);
    }

pub rest_end : (i n a : ℕ) (r q : List ℕ) → i ≤ n → n ≤ i → WithRest i a r q → WithRest n a r q
rest_end i n a r q l m h = let z : i ≡ n = omega arith in subst (λ (j : ℕ). WithRest j a r q) z h
