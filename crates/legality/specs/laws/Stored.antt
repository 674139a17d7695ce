-- What sound tables say of their credentials, and of sensitive roles with their Ack and AC roles. Assumes nothing.
use Rattle.std.specs.Prelude.{ℕ, ◌≡◌, refl, Bool, cond, eqb, Option, Some, None}
use Rattle.std.proofs.Common.{arith, ap, eqb-true}
use Rattle.std.proofs.Math.Path.{subst}
use Rattle.std.proofs.Math.Bool.{true, false}
use mathlib.Core.List.{List, [], ◌∷◌, Memᴰ}
use Rattle.expression.specs.declared.Role.{Role}
use Rattle.expression.specs.declared.Credential.{Credential}
use Rattle.expression.specs.declared.Expression.TheVariants as E
use Rattle.expression.specs.Form.{is_role}
use Rattle.expression.specs.Order.{before_credential}
use Rattle.expression.specs.Same.{same_role}
use Rattle.word.specs.laws.Bools.{and_parts}
use Rattle.class.specs.declared.Name.{Name}
use Rattle.rt0.specs.Lists.{first_or}
use Rattle.class.specs.Typing.{credential_number}
use Rattle.record.specs.declared.Pair.{Pair}
use Rattle.record.specs.Record.{formed}
use Rattle.tables.specs.Tables.{Tables}
use Rattle.tables.specs.Check.{or_else, stored_number}
use Rattle.tables.specs.Accepted.{Rising, Sound}
use Rattle.tables.specs.Lookup.{other_of}
use Rattle.tables.specs.Public.{less_direct}
use Rattle.tables.specs.laws.Public.{less-find, less-rising}
use Rattle.legality.specs.laws.Proper.{Proper, role-proper, ProperCredential}

-- each credential keeps all rules, and they ascend
pub record Stored (ns : List Name) (C : List Credential) : Type 0 where
  pub each : (c : Credential) → Memᴰ c C → ProperCredential ns c
  pub rising : Rising before_credential C

else-none : (k rest : ℕ) → or_else k rest ≡ 0 → k ≡ 0
else-none k rest h = go (eqb k 0) refl h
  where
    go : (b : Bool) → eqb k 0 ≡ b → cond b rest k ≡ 0 → k ≡ 0
    go true e q = eqb-true k 0 e
    go false e q = q

stored-classes : (ns : List Name) (subject : Bool) (c : Credential) → stored_number ns subject c ≡ 0 → credential_number ns c ≡ 0
unfolding stored_number
stored-classes ns subject c h = else-none (credential_number ns c) _ h

abbrev number : Option Role → ℕ
number (Some a) = 1
number None = 0

abbrev role_in : Role → Option Role → Role
role_in r (Some a) = a
role_in r None = r

-- a pair in which a role is found
other-find : (P : List Pair) (r q : Role) → other_of P r ≡ Some q → (p : Pair) × Memᴰ p P × (p.other ≡ q)
unfolding other_of
other-find P r q h = go P h
  where
    step : (p : Pair) (L : List Pair) (b : Bool) →
        ((first_or (λ (p : Pair). same_role p.role r) (λ p. Some p.other) None L ≡ Some q) → (p : Pair) × Memᴰ p L × (p.other ≡ q))
        → cond b (Some p.other) (first_or (λ (p : Pair). same_role p.role r) (λ p. Some p.other) None L) ≡ Some q
        → (s : Pair) × Memᴰ s (p ∷ L) × (s.other ≡ q)
    step p L true ih e = (p, mathlib.Core.List.Memᴰ.head refl, ap (role_in r) e)
    step p L false ih e = let w = ih e in (w.0, mathlib.Core.List.Memᴰ.tail w.1, w.2)

    go : (L : List Pair) → first_or (λ (p : Pair). same_role p.role r) (λ p. Some p.other) None L ≡ Some q
        → (p : Pair) × Memᴰ p L × (p.other ≡ q)
    go [] e = absurd (let z : ◌≡◌ {A = ℕ} 0 1 = ap number e in omega (arith, z))
    go (p ∷ L) e = step p L (same_role p.role r) (λ k. go L k) e

module _ (T : Tables) (t : Sound T) where
  -- 0x12
  pub issuer-stored : Stored T.names T.issuer_stored
  unfolding formed
  issuer-stored =
      record {
        each = λ c m. record { formed = t.issuer_stored.form c m; classes = stored-classes T.names false c (t.issuer_stored.rules c m) };
        rising = t.issuer_stored.ascend;
      }

  -- 0x13
  pub subject-stored : Stored T.names T.subject_stored
  unfolding formed
  subject-stored =
      record {
        each = λ c m. record { formed = t.subject_stored.form c m; classes = stored-classes T.names true c (t.subject_stored.rules c m) };
        rising = t.subject_stored.ascend;
      }

  -- 0x13 less direct credentials of sensitive roles
  pub less-stored : Stored T.names (less_direct T.own T.sensitive T.subject_stored)
  less-stored =
      record {
        each = λ c m. subject-stored.each c (less-find T.own T.sensitive T.subject_stored m).0;
        rising = less-rising T.own T.sensitive subject-stored.rising;
      }

  -- sensitive roles and their Ack roles
  pub sensitive-role : (p : Pair) → Memᴰ p T.sensitive → is_role p.role ≡ true
  unfolding formed
  sensitive-role p m = (and_parts (is_role p.role) (is_role p.other) (t.sensitive.form p m)).0

  pub ack-proper : (p : Pair) → Memᴰ p T.sensitive → Proper T.names (E.Role p.other)
  unfolding formed
  ack-proper p m = role-proper T.names p.other (and_parts (is_role p.role) (is_role p.other) (t.sensitive.form p m)).1

  -- AC roles
  pub access-proper : (r q : Role) → other_of T.access r ≡ Some q → Proper T.names (E.Role q)
  unfolding formed
  access-proper r q h =
      let w = other-find T.access r q h in
      let p : Pair = w.0 in
      subst (λ (a : Role). Proper T.names (E.Role a)) w.2
      (role-proper T.names p.other (and_parts (is_role p.role) (is_role p.other) (t.access.form p w.1)).1)
