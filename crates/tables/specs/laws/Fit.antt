-- The number that a record earns behind the tables read before it is that of the first rule which it breaks. Assumes nothing.
use Rattle.std.specs.Prelude.{ℕ, ◌<◌, ◌≤◌, ◌≡◌, refl, ◌↔◌, ◌⊎◌, Bool, true, false, cond, ◌&&◌, List}
use Rattle.std.proofs.Common.{arith, sym, ap, ◌∙◌, inl, inr, ⊎_elim}
use Rattle.expression.specs.declared.Credential.{Credential}
use Rattle.word.specs.laws.Bools.{and_parts}
use Rattle.class.specs.declared.Name.{Name}
use Rattle.class.specs.Names.{class_of}
use Rattle.class.specs.Typing.{type_of, suits, credential_number}
use Rattle.record.specs.declared.Record.{Record}
use Rattle.record.specs.declared.Record.TheVariants.{Own, Named, IssuerStored, SubjectStored, Sensitive, Access}
use Rattle.tables.specs.Tables.{Tables}
use Rattle.tables.specs.Check.{or_else, suits_storage, stored_number, pair_number, class_number, in_order, above, room, order_number, judge}
use Rattle.tables.specs.Fit.{keeps_stored, keeps_rules, Fit, Breaks, class-rule, out_of_order_lem}

-- The number by the tests

both-tests : (c d : Bool) → ◌≡◌ {A = ℕ} (or_else (cond c 0 5) (cond d 0 5)) (cond (c && d) 0 5)
both-tests true d = refl
both-tests false d = refl

else-tests : (c : Bool) (x : ℕ) → or_else (cond c 0 5) x ≡ cond c x 5
else-tests true x = refl
else-tests false x = refl

stored-tests : (ns : List Name) (subject : Bool) (c : Credential) → stored_number ns subject c ≡ cond (keeps_stored ns subject c) 0 5
unfolding stored_number credential_number
stored-tests ns subject c =
    both-tests (suits (type_of ns c.body) (class_of ns c.head.name)) (suits_storage subject (class_of ns c.head.name))

class-tests : (T : Tables) (r : Record) → class_number T r ≡ cond (keeps_rules T r) 0 5
unfolding class_number keeps_rules pair_number
class-tests T (Own e) = refl
class-tests T (Named n) = refl
class-tests T (IssuerStored c) = stored-tests T.names false c
class-tests T (SubjectStored c) = stored-tests T.names true c
class-tests T (Sensitive p) = refl
class-tests T (Access p) = refl

abbrev by_tests : Bool → Bool → ℕ
by_tests c d = cond c (cond d 0 6) 5

judge-tests : (T : Tables) (r : Record) → judge T r ≡ by_tests (keeps_rules T r) (in_order T r && above T r && room T r)
unfolding judge order_number
judge-tests T r =
    let order : ℕ = cond (in_order T r && above T r && room T r) 0 6 in
    ap (λ (n : ℕ). or_else n order) (class-tests T r) ∙ else-tests (keeps_rules T r) order

-- The number, exactly

module _ (T : Tables) (r : Record) where
  -- a record keeps all rules, or it breaks the one whose number it earns
  pub judge-reason : Fit T r ⊎ Breaks T r (judge T r)
  judge-reason = go (keeps_rules T r) (in_order T r && above T r && room T r) refl refl (judge-tests T r)
    where
      go : (c d : Bool) → keeps_rules T r ≡ c → (in_order T r && above T r && room T r) ≡ d → judge T r ≡ by_tests c d
          → Fit T r ⊎ Breaks T r (judge T r)
      go false d q o e = inr (class-rule q e)
      go true false q o e = inr (out_of_order_lem q o e)
      go true true q o e =
          let w = and_parts (in_order T r && above T r) (room T r) o in
          let v = and_parts (in_order T r) (above T r) w.0 in
          inl (record { rules = q; order = v.0; ascends = v.1; size = w.1 })

  -- one that breaks a rule earns its number
  pub breaks-number : {k : ℕ} → Breaks T r k → judge T r ≡ k
  breaks-number (class-rule q e) = judge-tests T r ∙ (λ i. by_tests (q i) (in_order T r && above T r && room T r)) ∙ sym e
  breaks-number (out_of_order_lem q o e) = judge-tests T r ∙ (λ i. by_tests (q i) (o i)) ∙ sym e

  -- the numbers of the rules are 5 and 6
  pub breaks-range : {k : ℕ} → Breaks T r k → (4 < k) × (k ≤ 6)
  breaks-range (class-rule q e) = (omega arith, omega arith)
  breaks-range (out_of_order_lem q o e) = (omega arith, omega arith)

  pub breaks-some : {k : ℕ} → Breaks T r k → k ≡ 0 → ⊥
  breaks-some b z = omega (arith, (breaks-range b).0, z)

  -- a record that keeps all rules, and no other, earns no number
  pub fit-exactly : (judge T r ≡ 0) ↔ Fit T r
  fit-exactly = (
    λ h. ⊎_elim (λ f. f) (λ b. absurd (breaks-some b h)) judge-reason,
    λ f. judge-tests T r ∙ (λ i. by_tests (f.rules i) (f.order i && f.ascends i && f.size i)),
  )

  -- it breaks no class rule
  pub fit-class : Fit T r → class_number T r ≡ 0
  fit-class f = class-tests T r ∙ (λ i. cond (f.rules i) 0 5)
