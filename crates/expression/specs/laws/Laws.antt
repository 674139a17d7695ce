-- Reading succeeds on the bytes of a well-formed expression, and on no others.
use Rattle.std.specs.Prelude.{ℕ, ◌≡◌, refl, Bool, true, false, ◌&&◌, eqb, Some, None}
use Rattle.std.proofs.Common.{sym, ap, ◌∙◌, arith, eqb-true, eq-eqb}
use Rattle.expression.specs.declared.Raw.{Raw}
use Rattle.expression.specs.declared.Expression.{Expression}
use Rattle.expression.specs.declared.Expression.TheVariants as x
use Rattle.expression.specs.Form.{raw_of, same_raw, well_formed, form_of, pick, expression_of}

-- a number is itself
pub eqb_refl : (n : ℕ) → eqb n n ≡ true
eqb_refl n = eq-eqb n n refl

-- numbers are the same as themselves
pub same_refl : (r : Raw) → same_raw r r ≡ true
same_refl r = simp eqb_refl

-- an expression is found from its numbers
pub expression-raw : (e : Expression) → expression_of (raw_of e) ≡ e
expression-raw (x.Entity n) = refl
expression-raw (x.Role r) = refl
expression-raw (x.Linked r n) = refl
expression-raw (x.Intersection p) = refl
expression-raw (x.Goal n) = refl

-- a well-formed expression is read back from its numbers
pub complete : (e : Expression) → well_formed e ≡ true → form_of (raw_of e) ≡ Some e
complete e h =
    ap (λ (f : Expression). pick (same_raw (raw_of f) (raw_of e) && well_formed f) (Some f) None) (expression-raw e)
    ∙ ap (λ (b : Bool). pick b (Some e) None) (ap (λ (b : Bool). b && well_formed e) (same_refl (raw_of e)) ∙ h)

-- the first of two tests that both pass
pub and_left : (a b : Bool) → a && b ≡ true → a ≡ true
and_left true b h = refl
and_left false b h = h

-- the second of two tests that both pass
pub and_right : (a b : Bool) → a && b ≡ true → b ≡ true
and_right true b h = h
and_right false b h = cc

last : (t : Bool) (m n : ℕ) → t && eqb m n ≡ true → (t ≡ true) × (m ≡ n)
last t m n h = (and_left t (eqb m n) h, eqb-true m n (and_right t (eqb m n) h))

record-eq : (a b : Raw) → a.kind ≡ b.kind → a.count ≡ b.count → a.n0 ≡ b.n0 → a.n1 ≡ b.n1 → a.n2 ≡ b.n2 → a.n3 ≡ b.n3
    → a.n4 ≡ b.n4 → a.n5 ≡ b.n5 → a.n6 ≡ b.n6 → a.n7 ≡ b.n7 → a ≡ b
record-eq a b k c h0 h1 h2 h3 h4 h5 h6 h7 =
    λ i. record { kind = k i; count = c i; n0 = h0 i; n1 = h1 i; n2 = h2 i; n3 = h3 i; n4 = h4 i; n5 = h5 i; n6 = h6 i; n7 = h7 i }

-- the test of all ten numbers leaves none out
pub same-raw : (a b : Raw) → same_raw a b ≡ true → a ≡ b
same-raw a b h =
    let t7 = last (_) a.n7 b.n7 h in
    let t6 = last (_) a.n6 b.n6 t7.0 in
    let t5 = last (_) a.n5 b.n5 t6.0 in
    let t4 = last (_) a.n4 b.n4 t5.0 in
    let t3 = last (_) a.n3 b.n3 t4.0 in
    let t2 = last (_) a.n2 b.n2 t3.0 in
    let t1 = last (_) a.n1 b.n1 t2.0 in
    let t0 = last (_) a.n0 b.n0 t1.0 in
    let tc = last (_) a.count b.count t0.0 in
    let tk : a.kind ≡ b.kind = eqb-true a.kind b.kind tc.0 in
    record-eq a b tk tc.1 t0.1 t1.1 t2.1 t3.1 t4.1 t5.1 t6.1 t7.1

-- what is read is well-formed, and its numbers are those that were read
pub canonical : (r : Raw) (e : Expression) → form_of r ≡ Some e → (raw_of e ≡ r) × (well_formed e ≡ true)
canonical r e h = at (same_raw (raw_of f) r && well_formed f) refl h
  where
    f : Expression
    f = expression_of r

    at : (t : Bool) → same_raw (raw_of f) r && well_formed f ≡ t → pick t (Some f) None ≡ Some e → (raw_of e ≡ r) × (well_formed e ≡ true)
    at true p q =
        let same : f ≡ e = cc in (
          ap raw_of (sym same) ∙ same-raw (raw_of f) r (and_left (same_raw (raw_of f) r) (well_formed f) p),
          ap well_formed (sym same) ∙ and_right (same_raw (raw_of f) r) (well_formed f) p,
        )
    at false p q = let z : ◌≡◌ {A = ℕ} 0 1 = cc in absurd (omega arith)
