-- Which kind an expression has. Assumes nothing.
use Rattle.std.specs.Prelude.{Bool, true, false}
use Rattle.expression.specs.declared.Expression.{Expression}
use Rattle.expression.specs.declared.Expression.TheVariants as E

abbrev pub is_entity : Expression → Bool
is_entity (E.Entity a) = true
is_entity (E.Role a) = false
is_entity (E.Linked a r) = false
is_entity (E.Intersection p) = false
is_entity (E.Goal r) = false

abbrev pub is_role_expression : Expression → Bool
is_role_expression (E.Entity a) = false
is_role_expression (E.Role a) = true
is_role_expression (E.Linked a r) = false
is_role_expression (E.Intersection p) = false
is_role_expression (E.Goal r) = false
