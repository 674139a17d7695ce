-- Equality of roles and expressions as tests.
use Rattle.std.specs.Prelude.{Bool, ◌&&◌, eqb}
use Rattle.expression.specs.declared.Role.{Role}
use Rattle.expression.specs.declared.Expression.{Expression}
use Rattle.expression.specs.Form.{raw_of, same_raw}
use Rattle.expression.specs.declared.Credential.{Credential}

unfoldable pub same_role : Role → Role → Bool
same_role p q = eqb p.entity q.entity && eqb p.name q.name

-- two expressions are the same where their numbers are
unfoldable pub same : Expression → Expression → Bool
same x y = same_raw (raw_of x) (raw_of y)

abbrev pub same_credential : Credential → Credential → Bool
same_credential c d = same_role c.head d.head && same c.body d.body
