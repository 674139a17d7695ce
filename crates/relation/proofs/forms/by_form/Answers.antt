use mathlib.Core.List.{List}
use mathlib.Core.Path.{◌≡◌, refl}
use mathlib.Core.Bool.{Bool}
use Prim.Native.Nat.{ℕ}
use Rattle.expression.specs.declared.Role.{Role}
use Rattle.expression.specs.declared.Parts.{Parts}
use Rattle.expression.specs.declared.Credential.{Credential}
use Rattle.expression.specs.declared.Expression.{Expression}
use Rattle.expression.specs.declared.Expression.TheVariants as E
use Rattle.expression.specs.Same.{same}
use Rattle.rt0.specs.Decide.{from?}
use Rattle.rules.specs.laws.Table.{chosen}
use Rattle.relation.specs.laws.Reached.{entity-from, goal-from}
use Rattle.relation.proofs.forms.by_form.Goals as goal

-- what is no role, link or intersection is from itself alone
alone : (C : List Credential) (f e : Expression) {t : Bool} → ((p : Role) → f ≡ E.Role p → ⊥) → ((a : Role) (m : ℕ) → f ≡ E.Linked a m → ⊥)
    → ((p : Parts) → f ≡ E.Intersection p → ⊥) → t ≡ same f e → t ≡ from? C f e
alone C (E.Entity b) e r l i h = entity-from C (E.Entity b) b e refl h
alone C (E.Role p) e r l i h = absurd (r p refl)
alone C (E.Linked a m) e r l i h = absurd (l a m refl)
alone C (E.Intersection p) e r l i h = absurd (i p refl)
alone C (E.Goal m) e r l i h = goal-from C (E.Goal m) m e refl h

pub returns-in-Role : goal.returns-in-Role
returns-in-Role c on m h = rw c.in-Role.is (c.role_from.ensures _ _ on h)

pub returns-in-Intersection : goal.returns-in-Intersection
returns-in-Intersection c on m h = rw c.in-Intersection.is (c.meet_from.ensures _ _ on h)

pub returns-in_default : goal.returns-in_default
returns-in_default c on m h =
    alone (chosen c.args.pool.now on) c.args.f c.args.e c.in_default.not-Role c.in_default.not-Linked c.in_default.not-Intersection c.same.ensures
