-- Tests by number, flags in a column, and how many numbers pass a test. Assumes nothing.
use Rattle.std.specs.Prelude.{ℕ, ◌+◌, ◌≤◌, ◌<◌, zero, suc, ◌≡◌, refl, ◌⊎◌, Bool, true, false, cond, ◌&&◌, List, [], ◌∷◌, eqb, length, set, get_or, replicate}
use Rattle.std.proofs.Common.{arith, sym, ◌∙◌, ap, ⊎_elim, inl, inr, eqb-true, eq-eqb, get_or-set_same, get_or-set_other, add-one}
use Rattle.std.proofs.lemmas.Bool.{eqb-false}
use Rattle.word.specs.laws.Bools.{false-true, or_cases, and_parts, and_both}
use Rattle.propagation.specs.Flags.{at, tab}
use Rattle.word.specs.laws.Search.{zeros, any_to}
pub use Rattle.word.specs.laws.Bools.{not-of}

pub flag_is : (b : Bool) → eqb (cond b 1 0) 1 ≡ b
flag_is true = refl
flag_is false = refl

pub decided : (a : Bool) → (a ≡ true) ⊎ (a ≡ false)
decided true = inl refl
decided false = inr refl

abbrev pub all_to : ℕ → (ℕ → Bool) → Bool
all_to zero f = true
all_to (suc n) f = all_to n f && f n

pub any_to-find : (n : ℕ) (f : ℕ → Bool) → any_to n f ≡ true → (i : ℕ) × (i < n) × (f i ≡ true)
any_to-find zero f h = absurd (false-true h)
any_to-find (suc n) f h =
    ⊎_elim (λ k. let r = any_to-find n f k in let l : r.0 < n = r.1 in (r.0, omega arith, r.2)) (λ k. (n, omega arith, k)) (or_cases (any_to n f) (f n) h)

pub all_to-each : (n : ℕ) (f : ℕ → Bool) → all_to n f ≡ true → (i : ℕ) → i < n → f i ≡ true
all_to-each zero f h i l = absurd (omega arith)
all_to-each (suc n) f h i l = go (eqb i n) refl (all_to-each n f (and_parts (all_to n f) (f n) h).0 i)
  where
    go : (b : Bool) → eqb i n ≡ b → (i < n → f i ≡ true) → f i ≡ true
    go true e ih = ap f (eqb-true i n e) ∙ (and_parts (all_to n f) (f n) h).1
    go false e ih = ih (omega (arith, eqb-false i n e))

pub all_to-of : (n : ℕ) (f : ℕ → Bool) → ((i : ℕ) → i < n → f i ≡ true) → all_to n f ≡ true
all_to-of zero f h = refl
all_to-of (suc n) f h = and_both (all_to n f) (f n) (all_to-of n f (λ i l. h i (omega arith))) (h n (omega arith))

pub tab-find : (f : ℕ → Bool) (i k j : ℕ) → at (tab f i k) j ≡ true → (j < k) × (f (i + j) ≡ true)
tab-find f i zero j h = absurd (false-true h)
tab-find f i (suc k) zero h = (omega arith, ap f (let e : i + 0 ≡ i = omega arith in e) ∙ h)
tab-find f i (suc k) (suc j) h =
    let r = tab-find f (suc i) k j h in
    let l : j < k = r.0 in
    let e : i + suc j ≡ suc i + j = omega arith in
    (omega arith, ap f e ∙ r.1)

pub tab-here : (f : ℕ → Bool) (i k j : ℕ) → j < k → f (i + j) ≡ true → at (tab f i k) j ≡ true
tab-here f i zero j l h = absurd (omega arith)
tab-here f i (suc k) zero l h = let e : i + 0 ≡ i = omega arith in sym (ap f e) ∙ h
tab-here f i (suc k) (suc j) l h =
    let e : i + suc j ≡ suc i + j = omega arith in
    tab-here f (suc i) k j (omega arith) (sym (ap f e) ∙ h)

abbrev pub one : Bool → ℕ
one true = 1
one false = 0

-- how many numbers below k pass
unfoldable pub cnt : ℕ → (ℕ → Bool) → ℕ
cnt zero s = 0
cnt (suc k) s = cnt k s + one (s k)

pub cnt-le : (k : ℕ) (s : ℕ → Bool) → cnt k s ≤ k
unfolding cnt
cnt-le zero s = omega arith
cnt-le (suc k) s = go (s k) (cnt-le k s)
  where
    go : (b : Bool) → cnt k s ≤ k → cnt k s + one b ≤ suc k
    go true h = omega arith
    go false h = omega arith

pub cnt-sub : (k : ℕ) (s t : ℕ → Bool) → ((i : ℕ) → i < k → s i ≡ true → t i ≡ true) → cnt k s ≤ cnt k t
unfolding cnt
cnt-sub zero s t h = omega arith
cnt-sub (suc k) s t h = go (s k) (t k) (h k (omega arith)) (cnt-sub k s t (λ i l. h i (omega arith)))
  where
    go : (a b : Bool) → (a ≡ true → b ≡ true) → cnt k s ≤ cnt k t → cnt k s + one a ≤ cnt k t + one b
    go true true f l = omega arith
    go true false f l = absurd (false-true (f refl))
    go false true f l = omega arith
    go false false f l = omega arith

pub cnt-more : (k : ℕ) (s t : ℕ → Bool) → ((i : ℕ) → i < k → s i ≡ true → t i ≡ true) → (j : ℕ) → j < k → s j ≡ false → t j ≡ true → cnt k s + 1 ≤ cnt k t
unfolding cnt
cnt-more zero s t h j l p q = absurd (omega arith)
cnt-more (suc k) s t h j l p q = go (eqb j k) refl (λ r. cnt-more k s t (λ i l. h i (omega arith)) j r p q)
  where
    last : (a b : Bool) → (a ≡ true → b ≡ true) → cnt k s + 1 ≤ cnt k t → cnt k s + one a + 1 ≤ cnt k t + one b
    last true true f l = omega arith
    last true false f l = absurd (false-true (f refl))
    last false true f l = omega arith
    last false false f l = omega arith

    go : (b : Bool) → eqb j k ≡ b → (j < k → cnt k s + 1 ≤ cnt k t) → cnt k s + one (s k) + 1 ≤ cnt k t + one (t k)
    go true e ih =
        let z : s k ≡ false = sym (ap s (eqb-true j k e)) ∙ p in
        let w : t k ≡ true = sym (ap t (eqb-true j k e)) ∙ q in
        let c : cnt k s ≤ cnt k t = cnt-sub k s t (λ i l. h i (omega arith)) in
        rw (z, w) (omega arith)
    go false e ih = last (s k) (t k) (h k (omega arith)) (ih (omega (arith, eqb-false j k e)))

-- one more stands
pub cnt-one : (k : ℕ) (s t : ℕ → Bool) (j : ℕ) → j < k → s j ≡ false → t j ≡ true → ((i : ℕ) → (i ≡ j → ⊥) → t i ≡ s i) → cnt k t ≡ cnt k s + 1
unfolding cnt
cnt-one zero s t j l p q o = absurd (omega arith)
cnt-one (suc k) s t j l p q o = go (eqb j k) refl (λ r. cnt-one k s t j r p q o)
  where
    same : (n : ℕ) → n ≤ j → cnt n t ≡ cnt n s
    same zero h = refl
    same (suc n) h = let e : t n ≡ s n = o n (λ z. omega arith) in let r = same n (omega arith) in rw (e, r) refl

    go : (b : Bool) → eqb j k ≡ b → (j < k → cnt k t ≡ cnt k s + 1) → cnt k t + one (t k) ≡ cnt k s + one (s k) + 1
    go true e ih =
        let i : j ≡ k = eqb-true j k e in
        let z : s k ≡ false = sym (ap s i) ∙ p in
        let w : t k ≡ true = sym (ap t i) ∙ q in
        let c : cnt k t ≡ cnt k s = same k (omega arith) in
        rw (z, w) (omega arith)
    go false e ih =
        let r : cnt k t ≡ cnt k s + 1 = ih (omega (arith, eqb-false j k e)) in
        let w : t k ≡ s k = o k (λ z. omega (arith, eqb-false j k e)) in
        rw (w) (omega arith)

pub cnt-none : (k : ℕ) (s : ℕ → Bool) → ((i : ℕ) → s i ≡ false) → cnt k s ≡ 0
unfolding cnt
cnt-none zero s h = refl
cnt-none (suc k) s h = rw (h k, cnt-none k s h) refl

pub cnt-some : (k : ℕ) (s : ℕ → Bool) (j : ℕ) → j < k → s j ≡ true → 0 < cnt k s
cnt-some k s j l h = omega (arith, cnt-more k (λ i. false) s (λ i l q. absurd (false-true q)) j l refl h)

pub cnt-next : (k : ℕ) (s : ℕ → Bool) → cnt (k + 1) s ≡ cnt k s + one (s k)
unfolding cnt
cnt-next k s = rw add-one refl

-- where one number does not pass, there is room
pub cnt-room : (k : ℕ) (s : ℕ → Bool) (j : ℕ) → j < k → s j ≡ false → cnt k s < k
cnt-room k s j l h = omega (arith, cnt-more k s (λ i. true) (λ i l q. refl) j l h refl, cnt-le k (λ i. true))

-- Flags in a column

abbrev pub flag : List ℕ → ℕ → Bool
flag l i = eqb (get_or l i 0) 1

pub flag_same : (l : List ℕ) (i : ℕ) → i < length l → flag (set l i 1) i ≡ true
flag_same l i h = eq-eqb (get_or (set l i 1) i 0) 1 (get_or-set_same l i 1 0 h)

pub flag-other : (l : List ℕ) (i j : ℕ) → (j ≡ i → ⊥) → flag (set l i 1) j ≡ flag l j
flag-other l i j h = ap (λ (x : ℕ). eqb x 1) (get_or-set_other l i j 1 0 h)

pub flag-grows : (l : List ℕ) (i j : ℕ) → i < length l → flag l j ≡ true → flag (set l i 1) j ≡ true
flag-grows l i j h t = ⊎_elim (λ e. ap (flag (set l i 1)) (eqb-true j i e) ∙ flag_same l i h) (λ e. flag-other l i j (eqb-false j i e) ∙ t) (decided (eqb j i))

-- a flag that stands after one was set stood before, or is this one
pub flag-cases : (l : List ℕ) (i j : ℕ) → flag (set l i 1) j ≡ true → (j ≡ i) ⊎ (flag l j ≡ true)
flag-cases l i j t = ⊎_elim (λ e. inl (eqb-true j i e)) (λ e. inr (sym (flag-other l i j (eqb-false j i e)) ∙ t)) (decided (eqb j i))

pub flag-zeros : (n i : ℕ) → flag (replicate n 0) i ≡ false
flag-zeros n i = ap (λ (x : ℕ). eqb x 1) (zeros n i)

pub flag-past : (l : List ℕ) (i : ℕ) → length l ≤ i → flag l i ≡ false
flag-past [] i h = refl
flag-past (x ∷ l) zero h = absurd (omega arith)
flag-past (x ∷ l) (suc i) h = flag-past l i (omega arith)
