-- The orders by numbers and by bytes are transitive. Assumes nothing.
use Rattle.std.specs.Prelude.{ℕ, ◌<◌, ◌≡◌, refl, ◌⊎◌, Bool, true, ◌&&◌, List, [], ◌∷◌, ltb, eqb}
use Rattle.std.proofs.Common.{inl, inr, ⊎_elim, arith, lt-ltb, ltb-true, eq-eqb, eqb-true}
use Rattle.expression.specs.declared.Role.{Role}
use Rattle.expression.specs.declared.Credential.{Credential}
use Rattle.expression.specs.Form.{ascends}
use Rattle.expression.specs.Order.{leads, lex_less, credential_numbers, before_credential}
use Rattle.word.specs.laws.Bools.{or_cases, or_left, or_right, and_parts, false-true}

pub less-chain : (a b c : ℕ) → ltb a b ≡ true → ltb b c ≡ true → ltb a c ≡ true
less-chain a b c h k = lt-ltb a c (omega (arith, ltb-true a b h, ltb-true b c k))

-- the first numbers decide, or they are equal and the rest does
leads-cases : (m n : ℕ) (r : Bool) → leads m n r ≡ true → (m < n) ⊎ ((m ≡ n) × (r ≡ true))
leads-cases m n r h =
    ⊎_elim (λ l. inl (ltb-true m n l)) (λ e. let b = and_parts (eqb m n) r e in inr (eqb-true m n b.0, b.1)) (or_cases (ltb m n) (eqb m n && r) h)

leads-first : (m n : ℕ) (r : Bool) → m < n → leads m n r ≡ true
leads-first m n r h = or_left (ltb m n) (eqb m n && r) (lt-ltb m n h)

leads-rest : (m n : ℕ) (r : Bool) → m ≡ n → r ≡ true → leads m n r ≡ true
leads-rest m n r h k = or_right (ltb m n) (eqb m n && r) (λ i. eq-eqb m n h i && k i)

leads-chain : (m n o : ℕ) (p q r : Bool) → (p ≡ true → q ≡ true → r ≡ true) → leads m n p ≡ true → leads n o q ≡ true → leads m o r ≡ true
leads-chain m n o p q r rest h k =
    ⊎_elim
    (λ l. ⊎_elim (λ l'. leads-first m o r (omega arith)) (λ e. let z : n ≡ o = e.0 in leads-first m o r (omega arith)) (leads-cases n o q k))
    (λ e. let z : m ≡ n = e.0 in ⊎_elim (λ l'. leads-first m o r (omega arith))
    (λ e'. let y : n ≡ o = e'.0 in leads-rest m o r (omega arith) (rest e.1 e'.1)) (leads-cases n o q k))
    (leads-cases m n p h)

-- the lexicographic order is transitive
lex-chain : (s t u : List ℕ) → lex_less s t ≡ true → lex_less t u ≡ true → lex_less s u ≡ true
lex-chain s t [] h k = absurd (false-true k)
lex-chain s [] (o ∷ u) h k = absurd (false-true h)
lex-chain [] (n ∷ t) (o ∷ u) h k = refl
lex-chain (m ∷ s) (n ∷ t) (o ∷ u) h k = leads-chain m n o (lex_less s t) (lex_less t u) (lex_less s u) (λ p q. lex-chain s t u p q) h k

-- the order by bytes of credentials is transitive
pub before-chain : (c d e : Credential) → before_credential c d ≡ true → before_credential d e ≡ true → before_credential c e ≡ true
unfolding before_credential
before-chain c d e h k = lex-chain (credential_numbers c) (credential_numbers d) (credential_numbers e) h k

-- and that of roles
pub ascends-chain : (p q r : Role) → ascends p q ≡ true → ascends q r ≡ true → ascends p r ≡ true
ascends-chain p q r h k =
    leads-chain p.entity q.entity r.entity (ltb p.name q.name) (ltb q.name r.name) (ltb p.name r.name)
    (less-chain p.name q.name r.name) h k
