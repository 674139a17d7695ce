-- Expressions of right form that are well typed, and what that says of their parts. Assumes nothing.
use Rattle.std.specs.Prelude.{ℕ, Bool, cond, ◌&&◌, eqb, ltb}
use Rattle.std.proofs.Common.{arith, ◌∙◌, ap, ⊎_elim}
use Rattle.std.proofs.Math.Path.{◌≡◌, refl}
use Rattle.std.proofs.Math.Bool.{true, false}
use mathlib.Core.List.Memᴰ
use mathlib.Core.List.{List, [], ◌∷◌, Memᴰ}
use Rattle.expression.specs.declared.Role.{Role}
use Rattle.expression.specs.declared.Parts.{Parts}
use Rattle.expression.specs.declared.Credential.{Credential}
use Rattle.expression.specs.declared.Expression.{Expression}
use Rattle.expression.specs.declared.Expression.TheVariants as E
use Rattle.expression.specs.Form.{choose, ascends, is_role, is_empty, tail_formed, well_formed}
use Rattle.expression.specs.Credential.{is_body, begins_with, well_formed_credential}
use Rattle.rt0.specs.From.{role_of, roles_of}
use Rattle.word.specs.laws.Bools.{false-true, and_parts, and_both}
use Rattle.class.specs.declared.Name.{Name}
use Rattle.class.specs.declared.Typing.{Typing}
use Rattle.class.specs.declared.Typing.TheVariants.{Ill, Any, Class}
use Rattle.class.specs.Names.{class_of}
use Rattle.class.specs.Typing.{type_of, suits, credential_number}
use Rattle.damage.specs.Records.{is_typed}

-- the expression is well typed, and its form is right
pub record Proper (ns : List Name) (x : Expression) : Type 0 where
  pub typed : is_typed (type_of ns x) ≡ true
  pub formed : well_formed x ≡ true

-- Expressions

module _ (ns : List Name) where
  pub role-proper : (a : Role) → is_role a ≡ true → Proper ns (E.Role a)
  unfolding type_of
  role-proper a f = record { typed = refl; formed = f }

  pub goal-proper : (r : ℕ) → ltb 0 r ≡ true → Proper ns (E.Goal r)
  unfolding type_of
  goal-proper r f = record { typed = refl; formed = f }

  pub entity-proper : (b : ℕ) → ltb 0 b ≡ true → Proper ns (E.Entity b)
  unfolding type_of
  entity-proper b h = record { typed = refl; formed = h }

  -- the first role of a linked role, and its second name as a goal
  pub linked-first : (a : Role) (r : ℕ) → Proper ns (E.Linked a r) → Proper ns (E.Role a)
  linked-first a r p = role-proper a (and_parts (is_role a) (ltb 0 r) p.formed).0

  pub linked-goal : (a : Role) (r : ℕ) → Proper ns (E.Linked a r) → Proper ns (E.Goal r)
  linked-goal a r p = goal-proper r (and_parts (is_role a) (ltb 0 r) p.formed).1

  -- a role with its second name
  pub linked-second : (a : Role) (r b : ℕ) → Proper ns (E.Linked a r) → ltb 0 b ≡ true → Proper ns (E.Role (role_of b r))
  linked-second a r b p h = role-proper (role_of b r) (and_both (ltb 0 b) (ltb 0 r) h (and_parts (is_role a) (ltb 0 r) p.formed).1)

  -- the roles of an intersection
  parts-formed : (p : Parts) → well_formed (E.Intersection p) ≡ true → (a : Role) → Memᴰ a (roles_of p) → is_role a ≡ true
  parts-formed p f a m =
      let u = and_parts (is_role p.first && is_role p.second && ascends p.first p.second) (tail_formed p) f in
      let v = and_parts (is_role p.first && is_role p.second) (ascends p.first p.second) u.0 in
      let w = and_parts (is_role p.first) (is_role p.second) v.0 in
      ⊎_elim (λ e. ap is_role e ∙ w.0) (λ k. ⊎_elim (λ e. ap is_role e ∙ w.1)
      (λ j. rest (eqb p.count 2) (eqb p.count 3) (eqb p.count 4) u.1 j) (Memᴰ.cases_cons k)) (Memᴰ.cases_cons m)
    where
      last : is_role p.fourth ≡ true → Memᴰ a (p.fourth ∷ []) → is_role a ≡ true
      last h k = ⊎_elim (λ e. ap is_role e ∙ h) (λ j. absurd (Memᴰ.not-nil j)) (Memᴰ.cases_cons k)

      rest : (two three four : Bool)
          → choose two (is_empty p.third && is_empty p.fourth)
          (choose three (is_role p.third && ascends p.second p.third && is_empty p.fourth)
          (choose four (is_role p.third && ascends p.second p.third && is_role p.fourth && ascends p.third p.fourth) false)) ≡ true
          → Memᴰ a (cond two [] (p.third ∷ cond three [] (p.fourth ∷ []))) → is_role a ≡ true
      rest true three four h k = absurd (Memᴰ.not-nil k)
      rest false true four h k =
          let u = and_parts (is_role p.third && ascends p.second p.third) (is_empty p.fourth) h in
          ⊎_elim (λ e. ap is_role e ∙ (and_parts (is_role p.third) (ascends p.second p.third) u.0).0) (λ j. absurd (Memᴰ.not-nil j))
          (Memᴰ.cases_cons k)
      rest false false true h k =
          let u = and_parts (is_role p.third && ascends p.second p.third && is_role p.fourth) (ascends p.third p.fourth) h in
          let v = and_parts (is_role p.third && ascends p.second p.third) (is_role p.fourth) u.0 in
          ⊎_elim (λ e. ap is_role e ∙ (and_parts (is_role p.third) (ascends p.second p.third) v.0).0) (λ j. last v.1 j) (Memᴰ.cases_cons k)
      rest false false false h k = absurd (false-true h)

  pub part-proper : (p : Parts) → Proper ns (E.Intersection p) → (a : Role) → Memᴰ a (roles_of p) → Proper ns (E.Role a)
  part-proper p h a m = role-proper a (parts-formed p h.formed a m)

-- Credentials

suits-typed : (t : Typing) (k : ℕ) → suits t k ≡ true → is_typed t ≡ true
suits-typed Ill k h = absurd (false-true h)
suits-typed Any k h = refl
suits-typed (Class a) k h = refl

-- a credential of right form that keeps the class rules
pub record ProperCredential (ns : List Name) (c : Credential) : Type 0 where
  pub formed : well_formed_credential c ≡ true
  pub classes : credential_number ns c ≡ 0

module _ (ns : List Name) (c : Credential) (k : ProperCredential ns c) where
  body_typed : credential_number ns c ≡ 0 → is_typed (type_of ns c.body) ≡ true
  unfolding credential_number
  body_typed h = go (suits (type_of ns c.body) (class_of ns c.head.name)) refl h
    where
      go : (b : Bool) → suits (type_of ns c.body) (class_of ns c.head.name) ≡ b → ◌≡◌ {A = ℕ} (cond b 0 5) 0
          → is_typed (type_of ns c.body) ≡ true
      go true e q = suits-typed (type_of ns c.body) (class_of ns c.head.name) e
      go false e q = absurd (let z : ◌≡◌ {A = ℕ} 5 0 = q in omega (arith, z))

  credential-parts : well_formed_credential c ≡ true → (is_role c.head ≡ true) × (well_formed c.body ≡ true) × (is_body c.body ≡ true)
  unfolding well_formed_credential
  credential-parts h =
      let u = and_parts (is_role c.head && well_formed c.body && is_body c.body) (begins_with c.head.entity c.body) h in
      let v = and_parts (is_role c.head && well_formed c.body) (is_body c.body) u.0 in
      let w = and_parts (is_role c.head) (well_formed c.body) v.0 in
      (w.0, w.1, v.1)

  pub head-formed : is_role c.head ≡ true
  head-formed = (credential-parts k.formed).0

  pub body-proper : Proper ns c.body
  body-proper = record { typed = body_typed k.classes; formed = (credential-parts k.formed).1 }

  pub body-body : is_body c.body ≡ true
  body-body = (credential-parts k.formed).2
