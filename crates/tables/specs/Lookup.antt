-- What the tables say of roles and credentials (document 01, "Classes", "The reply", "Two runs"). Assumes nothing.
use Rattle.std.specs.Prelude.{ℕ, Bool, ◌&&◌, List, Option, Some, None}
use Rattle.expression.specs.declared.Role.{Role}
use Rattle.expression.specs.declared.Credential.{Credential}
use Rattle.expression.specs.declared.Expression.TheVariants as E
use Rattle.expression.specs.Same.{same_role, same, same_credential}
use Rattle.rt0.specs.Lists.{any, first_or}
use Rattle.record.specs.declared.Pair.{Pair}

-- "the direct credential, role from self"
abbrev pub direct_of : ℕ → Role → Credential
direct_of own r = record { head = r; body = E.Entity own }

-- "A role is held if 0x13 has its direct credential"
unfoldable pub holds : ℕ → List Credential → Role → Bool
holds own C r = any (λ (c : Credential). same_credential c (direct_of own r)) C

-- a role is sensitive where it stands in 0x14
unfoldable pub is_sensitive : List Pair → Role → Bool
is_sensitive P r = any (λ (p : Pair). same_role p.role r) P

-- the Ack role of a sensitive role, by 0x14; its AC role, by 0x15
unfoldable pub other_of : List Pair → Role → Option Role
other_of P r = first_or (λ (p : Pair). same_role p.role r) (λ p. Some p.other) None P

-- the direct credential of a sensitive role
unfoldable pub is_direct : ℕ → List Pair → Credential → Bool
is_direct own P c = is_sensitive P c.head && same c.body (E.Entity own)
