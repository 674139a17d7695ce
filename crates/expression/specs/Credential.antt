-- Credentials and their 22 bytes: issuer, name, body (document 01, "Bytes", command 0x01).
use Rattle.std.specs.Prelude.{ℕ, ◌+◌, ◌/◌, ◌%◌, List, [], ◌∷◌, ◌++◌, Bool, true, false, ◌&&◌, eqb, Option, Some, None}
use Rattle.expression.specs.declared.Role.{Role}
use Rattle.expression.specs.declared.Expression.{Expression}
use Rattle.expression.specs.declared.Expression.TheVariants as x
use Rattle.expression.specs.declared.Credential.{Credential}
use Rattle.expression.specs.Bytes.{number_at, raw_bytes}
use Rattle.expression.specs.Form.{raw_of, read_of, is_role, well_formed}

-- a body has kind 1 to 4
abbrev pub is_body : Expression → Bool
is_body (x.Entity n) = true
is_body (x.Role r) = true
is_body (x.Linked r n) = true
is_body (x.Intersection p) = true
is_body (x.Goal n) = false

-- a linked body begins with the issuer
abbrev pub begins_with : ℕ → Expression → Bool
begins_with issuer (x.Entity n) = true
begins_with issuer (x.Role r) = true
begins_with issuer (x.Linked r n) = eqb r.entity issuer
begins_with issuer (x.Intersection p) = true
begins_with issuer (x.Goal n) = true

-- issuer and name are not zero; the body is of right form, has kind 1 to 4, and begins with the issuer where it is linked
unfoldable pub well_formed_credential : Credential → Bool
well_formed_credential c = is_role c.head && well_formed c.body && is_body c.body && begins_with c.head.entity c.body

abbrev pub pick_credential : Bool → Option Credential → Option Credential → Option Credential
pick_credential true a b = a
pick_credential false a b = b

-- a role: entity and name
abbrev pub role_at : List ℕ → ℕ → Role
role_at s at = record { entity = number_at s at; name = number_at s (at + 2) }

-- a credential is read only if it is well formed
abbrev pub checked_credential : Credential → Option Credential
checked_credential c = pick_credential (well_formed_credential c) (Some c) None

abbrev pub credential_of : Role → Option Expression → Option Credential
credential_of h (Some b) = checked_credential (record { head = h; body = b })
credential_of h None = None

-- the operands of a credential command
unfoldable pub read_credential : List ℕ → ℕ → Option Credential
read_credential s at = credential_of (role_at s at) (read_of s (at + 4))

-- entity, name
abbrev pub role_bytes : Role → List ℕ
role_bytes r = r.entity / 256 ∷ r.entity % 256 ∷ r.name / 256 ∷ r.name % 256 ∷ []

-- issuer, name, body
abbrev pub credential_bytes : Credential → List ℕ
credential_bytes c = role_bytes c.head ++ raw_bytes (raw_of c.body)
