-- What the tables say, parted into what may show and what is hidden until an Ack target is satisfied (document 01, "The reply", "Two runs").
-- Assumes nothing.
use Rattle.std.specs.Prelude.{ℕ, ◌≡◌, ◌↔◌, Bool, false, cond, not}
use mathlib.Core.List.{List, [], ◌∷◌, map, Memᴰ}
use Rattle.expression.specs.declared.Role.{Role}
use Rattle.expression.specs.declared.Credential.{Credential}
use Rattle.class.specs.declared.Name.{Name}
use Rattle.record.specs.declared.Pair.{Pair}
use Rattle.tables.specs.Tables.{Tables}
use Rattle.tables.specs.Lookup.{holds, is_direct}

-- the elements that pass a test, in their order
abbrev pub keep : {A : Type 0} → (A → Bool) → List A → List A
keep f [] = []
keep f (x ∷ xs) = cond (f x) (x ∷ keep f xs) (keep f xs)

-- a set of credentials, "less direct credentials of sensitive roles" ("A direct credential is a role from self")
unfoldable pub less_direct : ℕ → List Pair → List Credential → List Credential
less_direct own P C = keep (λ c. not (is_direct own P c)) C

-- the sensitive roles that are held, in the order of 0x14: "A role is held if 0x13 has its direct credential"
unfoldable pub held_of : ℕ → List Pair → List Credential → List Role
held_of own P C = keep (λ r. holds own C r) (map (λ (p : Pair). p.role) P)

-- what may show: self, names, 0x12, 0x13 less direct credentials of sensitive roles, 0x14
pub record Public : Type 0 where
  pub own : ℕ
  pub names : List Name
  pub issuer_stored : List Credential
  pub subject_stored : List Credential
  pub sensitive : List Pair

-- what is hidden: the sensitive roles that are held, and the access policies. A role's "access policy is its 0x15 record or none".
pub record Hidden : Type 0 where
  pub held : List Role
  pub access : List Pair

-- what may show of the tables
unfoldable pub public_of : Tables → Public
public_of T =
    record {
      own = T.own;
      names = T.names;
      issuer_stored = T.issuer_stored;
      subject_stored = less_direct T.own T.sensitive T.subject_stored;
      sensitive = T.sensitive;
    }

-- what is hidden of the tables
unfoldable pub hidden_of : Tables → Hidden
hidden_of T = record { held = held_of T.own T.sensitive T.subject_stored; access = T.access }

-- The tables of two runs differ only in which sensitive roles are held and in access policies: self, names, 0x12 and 0x14 are equal, and
-- 0x13 has the same credentials but for direct credentials of sensitive roles. Of 0x15 nothing is asked.
pub record DifferOnly (T U : Tables) : Type 0 where
  pub own : T.own ≡ U.own
  pub names : T.names ≡ U.names
  pub issuer_stored : T.issuer_stored ≡ U.issuer_stored
  pub sensitive : T.sensitive ≡ U.sensitive
  pub subject_stored : (c : Credential) → is_direct T.own T.sensitive c ≡ false → Memᴰ c T.subject_stored ↔ Memᴰ c U.subject_stored
