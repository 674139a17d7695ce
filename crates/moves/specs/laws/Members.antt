-- The members of an issuer-all first name are exactly those that the credentials of 0x12 prove. Assumes nothing.
use Rattle.std.specs.Prelude.{ℕ, ◌≡◌, refl, ◌↔◌, ◌⊎◌}
use Rattle.std.proofs.Common.{arith, sym, subst, inl, inr, ⊎_elim}
use mathlib.Core.List.{List, Memᴰ}
use Rattle.expression.specs.declared.Role.{Role}
use Rattle.expression.specs.declared.Credential.{Credential}
use Rattle.expression.specs.declared.Expression.{Expression}
use Rattle.expression.specs.declared.Expression.TheVariants as E
use Rattle.rt0.specs.From.{From, reflexive, transitive, credential, linking, intersection}
use Rattle.rt0.specs.Decide.{from? as from_of}
use Rattle.rt0.proofs.laws.Laws.{from-exact}
use Rattle.tables.specs.laws.Public.{keep-find, keep-mem}
use Rattle.moves.specs.Frontiers.{gather}
use Rattle.moves.specs.Rules.{End, entities_in, members_of}
use Rattle.moves.specs.laws.FrontiersExact.{gather-mem}

role-entity : (a : Role) (b : ℕ) → E.Role a ≡ E.Entity b → ⊥
role-entity a b h = absurd (let z : ◌≡◌ {A = ℕ} 0 1 = cc in omega arith)

-- an entity that another expression is from is the body of a credential
occurs : {C : List Credential} {f e : Expression} (b : ℕ) → From C f e → e ≡ E.Entity b
    → (f ≡ E.Entity b) ⊎ ((c : Credential) × Memᴰ c C × (c.body ≡ E.Entity b))
occurs b reflexive h = inl h
occurs b (transitive p q) h = ⊎_elim (λ k. occurs b p k) (λ k. inr k) (occurs b q h)
occurs b (credential {c = c} m) h = inr (c, m, h)
occurs b (linking p) h = absurd (role-entity _ b h)
occurs b (intersection {p = p} k) h = ⊎_elim (λ z. absurd (role-entity p.first b z)) (λ z. inr z) (occurs b (k p.first (Memᴰ.head refl)) h)

module _ (o : End) (a : Role) (b : ℕ) where
  abbrev stored : List Credential
  stored = o.tables.issuer_stored

  to-member : From stored (E.Role a) (E.Entity b) → Memᴰ b (members_of o a)
  to-member w =
      ⊎_elim (λ z. absurd (role-entity a b z))
      (λ z. keep-mem (λ (x : ℕ). from_of stored (E.Role a) (E.Entity x))
      (gather-mem (λ (c : Credential). entities_in c.body) z.1 (subst (λ (x : Expression). Memᴰ b (entities_in x)) (sym z.2) (Memᴰ.head refl)))
      ((from-exact stored (E.Role a) (E.Entity b)).1 w))
      (occurs b w refl)

  -- "For an issuer-all first name, "A.r1 from B" is taken over 0x12 alone"
  pub members-exact : Memᴰ b (members_of o a) ↔ From o.tables.issuer_stored (E.Role a) (E.Entity b)
  members-exact = (
    λ m. (from-exact stored (E.Role a) (E.Entity b)).0
        (keep-find (λ (x : ℕ). from_of stored (E.Role a) (E.Entity x)) (gather (λ (c : Credential). entities_in c.body) stored) m).1,
    to-member,
  )
