-- The lexicographic order is strict, and of two lists one comes first or they are equal. Assumes nothing.
use Rattle.std.specs.Prelude.{ℕ, ◌<◌, ◌≡◌, refl, ◌⊎◌, Bool, true, false, ◌&&◌, ◌||◌, List, [], ◌∷◌, ltb, eqb}
use Rattle.std.proofs.Common.{sym, inl, inr, ⊎_elim, arith, lt-ltb, le-ltb, ltb-true, eq-eqb, eqb-true}
use Rattle.word.specs.laws.Bools.{or_cases, or_left, or_right, and_parts, false-true}
use Rattle.expression.specs.Order.{leads, lex_less}
use Rattle.expression.specs.laws.Order.{by_order}

-- the first numbers decide, or they are equal and the rest does
pub leads-cases : (m n : ℕ) (r : Bool) → leads m n r ≡ true → (m < n) ⊎ ((m ≡ n) × (r ≡ true))
leads-cases m n r h =
    ⊎_elim (λ l. inl (ltb-true m n l)) (λ e. let b = and_parts (eqb m n) r e in inr (eqb-true m n b.0, b.1)) (or_cases (ltb m n) (eqb m n && r) h)

pub leads-first : (m n : ℕ) (r : Bool) → m < n → leads m n r ≡ true
leads-first m n r h = or_left (ltb m n) (eqb m n && r) (lt-ltb m n h)

pub leads-rest : (m n : ℕ) (r : Bool) → m ≡ n → r ≡ true → leads m n r ≡ true
leads-rest m n r h k = or_right (ltb m n) (eqb m n && r) (λ i. eq-eqb m n h i && k i)

pub leads-chain : (m n o : ℕ) (p q r : Bool) → (p ≡ true → q ≡ true → r ≡ true) → leads m n p ≡ true → leads n o q ≡ true → leads m o r ≡ true
leads-chain m n o p q r rest h k =
    ⊎_elim
    (λ l. ⊎_elim (λ l'. leads-first m o r (omega arith)) (λ e. let z : n ≡ o = e.0 in leads-first m o r (omega arith)) (leads-cases n o q k))
    (λ e. let z : m ≡ n = e.0 in ⊎_elim (λ l'. leads-first m o r (omega arith))
    (λ e'. let y : n ≡ o = e'.0 in leads-rest m o r (omega arith) (rest e.1 e'.1)) (leads-cases n o q k))
    (leads-cases m n p h)

-- it is transitive
pub lex-chain : (s t u : List ℕ) → lex_less s t ≡ true → lex_less t u ≡ true → lex_less s u ≡ true
lex-chain s t [] h k = absurd (false-true k)
lex-chain s [] (o ∷ u) h k = absurd (false-true h)
lex-chain [] (n ∷ t) (o ∷ u) h k = refl
lex-chain (m ∷ s) (n ∷ t) (o ∷ u) h k = leads-chain m n o (lex_less s t) (lex_less t u) (lex_less s u) (λ p q. lex-chain s t u p q) h k

-- no list comes before itself
pub lex-self : (s : List ℕ) → lex_less s s ≡ false
lex-self [] = refl
lex-self (n ∷ s) = λ i. le-ltb n n (omega arith) i || go (eqb n n) (lex_less s s) (lex-self s) i
  where
    go : (a b : Bool) → b ≡ false → (a && b) ≡ false
    go true b h = h
    go false b h = refl

-- of two lists one comes first, or they are equal
pub lex-three : (s t : List ℕ) → (lex_less s t ≡ true) ⊎ ((s ≡ t) ⊎ (lex_less t s ≡ true))
lex-three [] [] = inr (inl refl)
lex-three [] (n ∷ t) = inl refl
lex-three (m ∷ s) [] = inr (inr refl)
lex-three (m ∷ s) (n ∷ t) =
    by_order m n (λ l. inl (leads-first m n (lex_less s t) l)) (λ e. equal e (lex-three s t)) (λ l. inr (inr (leads-first n m (lex_less t s) l)))
  where
    equal : m ≡ n → (lex_less s t ≡ true) ⊎ ((s ≡ t) ⊎ (lex_less t s ≡ true))
        → (leads m n (lex_less s t) ≡ true) ⊎ ((m ∷ s ≡ n ∷ t) ⊎ (leads n m (lex_less t s) ≡ true))
    equal e r =
        ⊎_elim (λ l. inl (leads-rest m n (lex_less s t) e l))
        (⊎_elim (λ z. inr (inl (λ i. e i ∷ z i))) (λ l. inr (inr (leads-rest n m (lex_less t s) (sym e) l)))) r
