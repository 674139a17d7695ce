-- The comparison of numbers is that of the bytes written.
use Rattle.std.specs.Prelude.{ℕ, ◌/◌, ◌%◌, ◌<◌, ◌≡◌, refl, Bool, true, false, ltb}
use Rattle.std.proofs.Common.{sym, ap, ◌∙◌, arith, ltb-true, ltb-false, lt-ltb, le-ltb, eq-eqb, ne_eqb}
use Rattle.expression.specs.declared.Raw.{Raw}
use Rattle.expression.specs.declared.Expression.{Expression}
use Rattle.expression.specs.declared.Credential.{Credential}
use Rattle.expression.specs.Bytes.{raw_bytes}
use Rattle.expression.specs.Form.{raw_of}
use Rattle.expression.specs.Credential.{credential_bytes}
use Rattle.expression.specs.Order.{leads, lex_less, raw_numbers, before_of, before_credential}

-- a comparison found from its end
pub leads-then : (m n : ℕ) {r s t : Bool} → r ≡ leads m n s → s ≡ t → r ≡ leads m n t
leads-then m n h k = h ∙ ap (leads m n) k

-- two numbers are in one of three orders
pub by_order : {A : Type 0} (m n : ℕ) → (m < n → A) → (m ≡ n → A) → (n < m → A) → A
by_order {A} m n less equal more = go (ltb m n) (ltb n m) refl refl
  where
    go : (p q : Bool) → ltb m n ≡ p → ltb n m ≡ q → A
    go true q h k = less (ltb-true m n h)
    go false true h k = more (ltb-true n m k)
    go false false h k = equal (omega (arith, ltb-false m n h, ltb-false n m k))

leads-less : (m n : ℕ) (r : Bool) → m < n → leads m n r ≡ true
leads-less m n r h = rw (lt-ltb m n h)

-- equal numbers leave it to the rest
pub leads-equal : (m n : ℕ) (r : Bool) → m ≡ n → leads m n r ≡ r
leads-equal m n r h = rw (le-ltb m n (omega arith), eq-eqb m n h)

leads-more : (m n : ℕ) (r : Bool) → n < m → leads m n r ≡ false
leads-more m n r h = rw (le-ltb m n (omega arith), ne_eqb m n (λ e. omega arith))

-- numbers that differ decide
pub leads-other : (m n : ℕ) (r : Bool) → (m ≡ n → ⊥) → leads m n r ≡ ltb m n
leads-other m n r h =
    by_order m n (λ l. leads-less m n r l ∙ sym (lt-ltb m n l)) (λ e. absurd (h e)) (λ l. leads-more m n r l ∙ sym (le-ltb m n (omega arith)))

-- a number as two bytes, high byte first
pub leads-bytes : (m n : ℕ) (r : Bool) → leads m n r ≡ leads (m / 256) (n / 256) (leads (m % 256) (n % 256) r)
leads-bytes m n r =
    by_order (m / 256) (n / 256)
    (λ h. leads-less m n r (omega arith) ∙ sym (leads-less (m / 256) (n / 256) low h))
    (λ h.
    by_order (m % 256) (n % 256)
    (λ k. leads-less m n r (omega arith) ∙ sym (leads-equal (m / 256) (n / 256) low h ∙ leads-less (m % 256) (n % 256) r k))
    (λ k. leads-equal m n r (omega arith) ∙ sym (leads-equal (m / 256) (n / 256) low h ∙ leads-equal (m % 256) (n % 256) r k))
    (λ k. leads-more m n r (omega arith) ∙ sym (leads-equal (m / 256) (n / 256) low h ∙ leads-more (m % 256) (n % 256) r k)))
    (λ h. leads-more m n r (omega arith) ∙ sym (leads-more (m / 256) (n / 256) low h))
  where
    low : Bool
    low = leads (m % 256) (n % 256) r

-- a number in front of two lists may as well be its two bytes
number-first : (m n : ℕ) {a b : Bool} → a ≡ b → leads m n a ≡ leads (m / 256) (n / 256) (leads (m % 256) (n % 256) b)
number-first m n {a} {b} h = leads-bytes m n a ∙ ap (λ (r : Bool). leads (m / 256) (n / 256) (leads (m % 256) (n % 256) r)) h

raw-order : (a b : Raw) → lex_less (raw_numbers a) (raw_numbers b) ≡ lex_less (raw_bytes a) (raw_bytes b)
raw-order a b =
    ap (λ (r : Bool). leads a.kind b.kind (leads a.count b.count r))
    (number-first a.n0 b.n0
    (number-first a.n1 b.n1
    (number-first a.n2 b.n2
    (number-first a.n3 b.n3
    (number-first a.n4 b.n4
    (number-first a.n5 b.n5
    (number-first a.n6 b.n6
    (number-first a.n7 b.n7 refl))))))))

-- expressions are in the order of their 18 bytes
pub before-bytes : (x y : Expression) → before_of x y ≡ lex_less (raw_bytes (raw_of x)) (raw_bytes (raw_of y))
unfolding before_of
before-bytes x y = raw-order (raw_of x) (raw_of y)

-- credentials are in the order of their 22 bytes
pub before-credential-bytes : (c d : Credential) → before_credential c d ≡ lex_less (credential_bytes c) (credential_bytes d)
unfolding before_credential
before-credential-bytes c d =
    number-first c.head.entity d.head.entity
    (number-first c.head.name d.head.name (raw-order (raw_of c.body) (raw_of d.body)))
