-- The two numbers of a role as one. Assumes nothing.
use Rattle.std.specs.Prelude.{ℕ, ◌+◌, ◌*◌, ◌<◌, ◌≡◌, eqb}
use Rattle.std.proofs.Common.{arith, sym, ◌∙◌, ap, eqb-true, eq-eqb}
use Rattle.expression.specs.declared.Role.{Role}
use Rattle.expression.specs.Same.{same_role}
use Rattle.expression.specs.laws.Same.{same_role-eq, eq-same_role}
use Rattle.word.specs.laws.Bools.{bool_iff}

-- k is the key of the role
pub record KeyOf (p : Role) (k : ℕ) : Type 0 where
  pub small : p.entity < 65536
  pub sum : k ≡ p.entity + p.name * 65536

-- roles are the same where their keys are
pub same_key : (p q : Role) {k l : ℕ} → KeyOf p k → KeyOf q l → eqb k l ≡ same_role p q
same_key p q {k} {l} a b =
    bool_iff (eqb k l) (same_role p q) (λ h. eq-same_role p q (roles (eqb-true k l h)))
    (λ h. eq-eqb k l (a.sum ∙ (ap (λ (r : Role). r.entity + r.name * 65536) (same_role-eq p q h) ∙ sym b.sum)))
  where
    roles : k ≡ l → p ≡ q
    roles h =
        let e : p.entity ≡ q.entity = omega (arith, a.small, a.sum, b.small, b.sum) in
        let n : p.name ≡ q.name = omega (arith, a.small, a.sum, b.small, b.sum) in
        λ i. record { entity = e i; name = n i }
