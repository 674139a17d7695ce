-- Role containment: "f from e" of document 01, the relation of section 2.3 of document 003. Assumes nothing.
use Rattle.std.specs.Prelude.{ℕ, cond, eqb}
use mathlib.Core.List.{List, [], ◌∷◌, Memᴰ}
use Rattle.expression.specs.declared.Role.{Role}
use Rattle.expression.specs.declared.Parts.{Parts}
use Rattle.expression.specs.declared.Credential.{Credential}
use Rattle.expression.specs.declared.Expression.{Expression}
use Rattle.expression.specs.declared.Expression.TheVariants as E

-- the role A.r
abbrev pub role_of : ℕ → ℕ → Role
role_of a r = record { entity = a; name = r }

-- the roles of an intersection: two, three or four
abbrev pub roles_of : Parts → List Role
roles_of p =
    p.first ∷ p.second ∷ cond (eqb p.count 2) [] (p.third ∷ cond (eqb p.count 3) [] (p.fourth ∷ []))

-- "f from e" over the credentials C: the least relation that meets the five conditions of section 2.3. Document 01 takes it over every
-- expression of kinds 1 to 4; a goal is no RT0 expression, no credential has one as its body, and of a goal only the first condition speaks.
pub data From (C : List Credential) : Expression → Expression → Type 0 where
  reflexive : {e : Expression} → From C e e
  transitive : {d e f : Expression} → From C d e → From C e f → From C d f
  credential : {c : Credential} → Memᴰ c C → From C (E.Role c.head) c.body
  linking : {a : Role} {r b : ℕ} → From C (E.Role a) (E.Entity b) → From C (E.Linked a r) (E.Role (role_of b r))
  intersection : {p : Parts} {e : Expression} → ((a : Role) → Memᴰ a (roles_of p) → From C (E.Role a) e) → From C (E.Intersection p) e
