use Rattle.std.proofs.Common.{◌≡◌, refl, false}
use Rattle.expression.specs.declared.Role.{Role}
use Rattle.expression.specs.declared.Expression.{Expression}
use Rattle.expression.specs.declared.Expression.TheVariants as E
use Rattle.expression.specs.Kinds.{is_role_expression}
use Rattle.sending.specs.laws.SentLaws.{direct-other, direct-role}
use Rattle.sending.proofs.credentials.direct_for.Goals as goal

no_role : (x : Expression) → ((p : Role) → x ≡ E.Role p → ⊥) → is_role_expression x ≡ false
no_role (E.Role p) n = absurd (n p refl)
no_role _ n = refl

pub returns-in_default : goal.returns-in_default
returns-in_default c = direct-other _ _ _ _ refl (no_role _ c.in_default.not-Role) c.alone.ensures

pub returns : goal.returns
returns c = direct-role _ _ _ c.in-Role.is c.with_one.ensures
