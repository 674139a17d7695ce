-- Equality of roles, expressions and credentials is equality of the values. Assumes nothing.
use Rattle.std.specs.Prelude.{◌≡◌, refl, Bool, true, false, not, ◌&&◌, eqb}
use Rattle.std.proofs.Common.{sym, ◌∙◌, ap, eq-eqb, eqb-true}
use Rattle.std.proofs.lemmas.Bool.{not-true, not-false}
use Rattle.expression.specs.declared.Role.{Role}
use Rattle.expression.specs.declared.Credential.{Credential}
use Rattle.expression.specs.declared.Expression.{Expression}
use Rattle.expression.specs.Same.{same, same_role, same_credential}
use Rattle.expression.specs.Form.{raw_of, same_raw, expression_of}
use Rattle.expression.specs.laws.Laws.{and_left, and_right, same_refl, same-raw, expression-raw}
use Rattle.word.specs.laws.Bools.{and_parts, and_both}

-- the head, then the body
pub other-head : (d c : Credential) {r : Role} {a : Bool} → r ≡ d.head → a ≡ same_role r c.head → not a ≡ true → false ≡ same_credential d c
other-head d c {r} {a} h e k = ap (λ (b : Bool). b && same d.body c.body) (sym (not-true a k) ∙ e ∙ ap (λ (r : Role). same_role r c.head) h)

pub same_head : (d c : Credential) {r : Role} {x : Expression} {a b : Bool} → r ≡ d.head → a ≡ same_role r c.head → not a ≡ false → x ≡ d.body
    → b ≡ same x c.body → b ≡ same_credential d c
same_head d c {r} {x} {a} {b} h e k y f =
    f ∙ ap (λ (z : Expression). same z c.body) y
    ∙ ap (λ (t : Bool). t && same d.body c.body) (sym (not-false a k) ∙ e ∙ ap (λ (r : Role). same_role r c.head) h)

-- roles that pass the test are equal
pub same_role-eq : (p q : Role) → same_role p q ≡ true → p ≡ q
unfolding same_role
same_role-eq p q h =
    let a : p.entity ≡ q.entity = eqb-true p.entity q.entity (and_left _ _ h) in
    let b : p.name ≡ q.name = eqb-true p.name q.name (and_right (eqb p.entity q.entity) _ h) in
    λ i. record { entity = a i; name = b i }

-- equal roles pass the test
pub eq-same_role : (p q : Role) → p ≡ q → same_role p q ≡ true
unfolding same_role
eq-same_role p q h = rw (eq-eqb p.entity q.entity (ap (λ (r : Role). r.entity) h)) (eq-eqb p.name q.name (ap (λ (r : Role). r.name) h))

-- expressions that pass the test are equal
pub same-eq : (x y : Expression) → same x y ≡ true → x ≡ y
unfolding same
same-eq x y h = sym (expression-raw x) ∙ (ap expression_of (same-raw (raw_of x) (raw_of y) h) ∙ expression-raw y)

-- equal expressions pass the test
pub eq-same : (x y : Expression) → x ≡ y → same x y ≡ true
unfolding same
eq-same x y h = ap (λ (z : Expression). same_raw (raw_of x) (raw_of z)) (sym h) ∙ same_refl (raw_of x)

pub same_credential-eq : (d c : Credential) → same_credential d c ≡ true → d ≡ c
same_credential-eq d c h =
    let p = and_parts (same_role d.head c.head) (same d.body c.body) h in
    let a : d.head ≡ c.head = same_role-eq d.head c.head p.0 in
    let b : d.body ≡ c.body = same-eq d.body c.body p.1 in
    λ i. record { head = a i; body = b i }

pub same_credential-refl : (c : Credential) → same_credential c c ≡ true
same_credential-refl c =
    and_both (same_role c.head c.head) (same c.body c.body) (eq-same_role c.head c.head refl) (eq-same c.body c.body refl)
